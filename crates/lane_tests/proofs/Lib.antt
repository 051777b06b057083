mod NumberLemmas
mod HandsLemmas

pub mod BackLemmas
pub mod JudgedLemmas
pub mod LettersLemmas
pub mod NumberLemmas
pub mod ReadLineLemmas
pub mod RunLemmas
pub mod ValuesLemmas
pub mod WordsLemmas

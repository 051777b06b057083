pub mod HintLemmas
pub mod NumberedLemmas
pub mod OthersLemmas
pub mod PassLemmas
pub mod SumLemmas

pub mod EventLineLemmas
pub mod NumberLemmas
pub mod PartingLemmas
pub mod ReadBackLemmas
pub mod ReadingLemmas
pub mod SessionLemmas
pub mod SplitLemmas
pub mod VerdictLemmas

pub mod ReachingLemmas
pub mod JoiningLemmas
pub mod HandingLemmas

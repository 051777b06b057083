pub mod WatchLemmas
pub mod UnlockLemmas
pub mod GuardingLemmas
pub mod SeeingLemmas
pub mod NotingLemmas
pub mod HandedLemmas

pub mod DueFirstLemmas
pub mod EarliestLemmas
pub mod FirstLemmas
pub mod FoundLemmas
pub mod OrderLemmas
pub mod TimersLemmas
pub mod TournamentLemmas

pub mod SpentLemmas
pub mod BoxedLemmas
pub mod RackedLemmas
pub mod DiscardLemmas

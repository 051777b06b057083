pub mod LostLemmas
pub mod StandLemmas
pub mod TurnLemmas

pub mod LabelLemmas
pub mod OpeningLemmas
pub mod RequestLemmas
pub mod StandLemmas

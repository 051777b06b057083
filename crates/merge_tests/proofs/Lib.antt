pub mod SpoiltLemmas
pub mod DrawingLemmas

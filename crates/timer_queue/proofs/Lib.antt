pub mod EditLemmas
pub mod EntryLemmas
pub mod HeapLemmas
pub mod LevelLemmas
pub mod OrderLemmas
pub mod PlaceLemmas
pub mod QueueLemmas

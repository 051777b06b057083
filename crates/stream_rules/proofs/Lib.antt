pub mod CuttingLemmas
pub mod DelimiterLemmas
pub mod PipeLemmas
pub mod PlayingLemmas
pub mod QueueCuttingLemmas
pub mod QueueLemmas
pub mod ScheduleLemmas
pub mod WorldLemmas

pub mod EndingLemmas
pub mod LedgerLemmas
pub mod NumberLemmas
pub mod ReceiveLemmas
pub mod RunLemmas
pub mod StepLemmas
pub mod TurnLemmas

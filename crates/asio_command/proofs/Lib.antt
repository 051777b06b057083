pub mod SessionLemmas
pub mod StatusLemmas

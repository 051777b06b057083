pub mod AtLemmas
pub mod StayLemmas
pub mod HeldLemmas
pub mod RuleLemmas

pub mod CallsLemmas
pub mod SpentLemmas
pub mod StrandLemmas
pub mod TakingLemmas
pub mod VerdictLemmas
pub mod NestingLemmas
pub mod RanksLemmas
pub mod StrictOrderLemmas

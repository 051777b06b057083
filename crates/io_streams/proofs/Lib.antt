pub mod CallLemmas
pub mod KeptLemmas
pub mod CancelLemmas
pub mod InOrderLemmas
pub mod ItemLemmas
pub mod LeftLemmas
pub mod StatesLemmas

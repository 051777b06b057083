pub mod LaidLemmas
pub mod ListLemmas
pub mod NumberLemmas
pub mod PastLemmas
pub mod SeatLemmas
pub mod TableLemmas
pub mod TurnLemmas
pub mod ViewLemmas

pub mod Bounded
pub mod Ending
pub mod Next

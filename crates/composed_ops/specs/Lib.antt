pub mod Feeding
pub mod Machine
pub mod Progress
pub mod Step
pub mod StreamOperation
pub mod Want

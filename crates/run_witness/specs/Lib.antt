pub mod Executions
pub mod Facts
pub mod Placing
pub mod Reached
pub mod Causes
pub mod Witness
pub mod Judging
pub mod Faults

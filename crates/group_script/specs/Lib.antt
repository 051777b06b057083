pub mod Group
pub mod Limits
pub mod Measure
pub mod Aborting

pub mod Initiated
pub mod Touched

pub mod Lost
pub mod Ready
pub mod Stands
pub mod Turns

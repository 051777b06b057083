pub mod Notes
pub mod Reaching
pub mod Joining
pub mod Handing

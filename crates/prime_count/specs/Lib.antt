pub mod Prime
pub mod Told

pub mod Watching
pub mod Guarding
pub mod Noting
pub mod Handing

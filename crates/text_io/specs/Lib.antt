pub mod Buffering
pub mod Counts
pub mod Note
pub mod Seen
pub mod Text
pub mod Turns

pub mod Answer
pub mod FileStatuses
pub mod Files
pub mod Parts
pub mod Session
pub mod Show
pub mod Scripts

pub mod Heads
pub mod Answers
pub mod Requests
pub mod Connections
pub mod Accepting
pub mod Serving

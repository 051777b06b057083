pub mod Answer
pub mod Condition
pub mod Handlers
pub mod Sign

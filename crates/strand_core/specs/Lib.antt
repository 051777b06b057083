pub mod Execution
pub mod Hands
pub mod Answer
pub mod Ready
pub mod Room
pub mod Placing

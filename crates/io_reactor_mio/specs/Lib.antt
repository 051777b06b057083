pub mod EventEdge
pub mod Gave
pub mod Tokens

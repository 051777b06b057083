pub mod Generator
pub mod PlainSummary
pub mod Summary

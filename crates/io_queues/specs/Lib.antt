pub mod Linked
pub mod Ordered
pub mod Queued

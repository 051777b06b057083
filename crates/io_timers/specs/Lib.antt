pub mod DueFirst
pub mod Kept
pub mod Pending
pub mod Tournament

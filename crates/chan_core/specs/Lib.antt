pub mod Channel
pub mod Done
pub mod Lending
pub mod Pending
pub mod Runs
pub mod Timed

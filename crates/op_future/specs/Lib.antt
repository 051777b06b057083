pub mod Futures
pub mod Gathering
pub mod SeatedWorkers
pub mod Seats
pub mod Sessions
pub mod Steps
pub mod Tasks

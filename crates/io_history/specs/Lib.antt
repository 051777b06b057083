pub mod Names
pub mod Rule
pub mod Seats
pub mod Steps

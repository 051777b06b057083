pub mod Marks
pub mod Job
pub mod Handler
pub mod Rack

pub mod Counted
pub mod Invoked
pub mod Laws
pub mod Naming
pub mod Refused
pub mod Sleeping
pub mod Timed
pub mod Transferred

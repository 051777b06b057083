pub mod Collecting
pub mod Completing
pub mod Members
pub mod Orders
pub mod Placed
pub mod Refusing
pub mod Scripts
pub mod Wanting

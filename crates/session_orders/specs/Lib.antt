pub mod Bound
pub mod Count
pub mod Listed
pub mod Order
pub mod Place
pub mod Same
pub mod Walk

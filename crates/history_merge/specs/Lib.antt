pub mod Among
pub mod Drawn
pub mod Merging
pub mod Ordering
pub mod Placing
pub mod Receipts
pub mod Room
pub mod Solo

pub mod Entry
pub mod Heap
pub mod Places
pub mod Queue

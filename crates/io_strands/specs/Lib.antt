pub mod Cell
pub mod Numbered

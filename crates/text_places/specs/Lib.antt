pub mod Column
pub mod Excerpt
pub mod Lines
pub mod Text
pub mod Tokens

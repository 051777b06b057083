pub mod Window
pub mod Escaped
pub mod Items

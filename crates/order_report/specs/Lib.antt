pub mod Form
pub mod Reading
pub mod Report
pub mod Session

pub mod Lines
pub mod Links
pub mod Chats
pub mod Rooms
pub mod Serving
pub mod Telling
pub mod Texts
pub mod Watching

pub mod Command
pub mod CommandStatus

pub mod Beginning
pub mod Making
pub mod RoundEnds
pub mod SessionRooms
pub mod Setup
pub mod SideBySide
pub mod StopCauses

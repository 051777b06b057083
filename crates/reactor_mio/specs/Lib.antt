pub mod Sockets
pub mod Transfer
pub mod Wires

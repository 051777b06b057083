pub mod Reactor

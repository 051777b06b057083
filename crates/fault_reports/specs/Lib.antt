pub mod FaultPlace

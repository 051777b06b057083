pub mod Laid
pub mod Numbers
pub mod Past
pub mod Seated
pub mod TurnRule
pub mod TurnSteps

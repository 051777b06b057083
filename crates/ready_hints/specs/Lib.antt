pub mod HintRule
pub mod Hints

pub mod Plans
pub mod Scene

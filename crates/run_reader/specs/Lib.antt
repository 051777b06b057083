pub mod Buffer
pub mod Reader

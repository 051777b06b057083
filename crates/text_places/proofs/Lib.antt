pub mod LineFeedLemmas
pub mod TokenLemmas

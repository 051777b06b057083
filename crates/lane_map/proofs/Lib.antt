pub mod CountLemmas
pub mod PlaceLemmas
pub mod NumberLemmas
pub mod CellLemmas
pub mod RankLemmas

pub mod LaneNumbers

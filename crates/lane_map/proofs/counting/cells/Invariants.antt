use Rattle.std.proofs.Common.{◌≡◌, ◌+◌, vec_len}
use Rattle.lane_map.specs.LaneNumbers.{has_cell, home_lane}
use Rattle.lane_map.proofs.CountLemmas.{AreCounted}
use Rattle.lane_map.proofs.counting.cells.Given as goal

abbrev pub invariant-loop-a : goal.invariant-loop-a
invariant-loop-a l = record {
  size : vec_len l.cells ≡ l.reactor + 1;
  counted : AreCounted (has_cell l.script) (home_lane l.script) (l.reactor + 1) l.a l.cells.items;
}

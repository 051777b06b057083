use Rattle.std.proofs.Common.{◌≡◌, ◌≤◌, length, map, vec_len}
use Rattle.std.specs.Prelude.{vec_capacity}
use Rattle.std.specs.List.{range_with_len}
use Rattle.session_script.specs.Script.{is_op}
use Rattle.lane_map.specs.LaneNumbers.{home_lane, rank_of}
use Rattle.lane_map.proofs.CountLemmas.{AreCounted}
use Rattle.lane_map.proofs.counting.ranks.Given as goal

abbrev pub invariant-loop-a : goal.invariant-loop-a
invariant-loop-a l = record {
  size : vec_len l.operations ≡ l.lanes;
  counted : AreCounted (is_op l.script) (home_lane l.script) l.lanes l.a l.operations.items;
  rank : l.rank.items ≡ map (rank_of l.script) (range_with_len 0 l.a);
  room : length l.script.acts ≤ vec_capacity l.rank;
}

use Rattle.std.proofs.Common.{◌≡◌, ◌≤◌, length, map}
use Rattle.std.specs.Prelude.{vec_capacity}
use Rattle.std.specs.List.{range_with_len}
use Rattle.lane_map.specs.LaneNumbers.{home_lane, own_number}
use Rattle.lane_map.proofs.homes.homes.Given as goal

abbrev pub invariant-loop-a : goal.invariant-loop-a
invariant-loop-a l = record {
  own : l.own ≡ own_number l.script l.a;
  homes : l.homes.items ≡ map (home_lane l.script) (range_with_len 0 l.a);
  room : length l.script.acts ≤ vec_capacity l.homes;
}

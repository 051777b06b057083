use Rattle.std.proofs.Common.{◌≡◌}
use Rattle.lane_map.specs.LaneNumbers.{has_own_lane, passing_before}
use Rattle.lane_map.proofs.homes.own_lanes.Given as goal

abbrev pub invariant-loop-a : goal.invariant-loop-a
invariant-loop-a l = l.own ≡ passing_before (has_own_lane l.script) l.a

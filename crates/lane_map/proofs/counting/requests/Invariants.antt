use Rattle.std.proofs.Common.{◌≡◌}
use Rattle.lane_map.specs.LaneNumbers.{act_passes, asks_reactor, passing_before}
use Rattle.lane_map.proofs.counting.requests.Given as goal

abbrev pub invariant-loop-a : goal.invariant-loop-a
invariant-loop-a l = l.requests ≡ passing_before (act_passes asks_reactor l.script) l.a

use Rattle.std.proofs.Common.{◌≡◌}
use Rattle.lane_tests.proofs.strands.destroy.Given as goal

abbrev pub invariant-loop-op : goal.invariant-loop-op
invariant-loop-op g l = l.hands.script ≡ l.script

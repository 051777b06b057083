use Rattle.std.proofs.Common.{◌≡◌}
use Rattle.lane_tests.proofs.strands.ready_by.Given as goal

abbrev pub invariant-loop-call : goal.invariant-loop-call
invariant-loop-call l = l.ready.acts ≡ l.fn.ready.acts

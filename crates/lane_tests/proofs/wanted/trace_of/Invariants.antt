use Rattle.std.proofs.Common.{◌≡◌, ◌+◌}
use Rattle.lane_tests.proofs.wanted.trace_of.Given as goal

abbrev pub invariant-loop-n : goal.invariant-loop-n
invariant-loop-n g l = l.history.spare + l.n ≡ 64

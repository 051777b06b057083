use Rattle.std.proofs.Common.{map}
use Rattle.history_merge.specs.Ordering.{ArePositioned}
use Rattle.merge_tests.proofs.drawing.empty_logs.Given as goal

abbrev pub invariant-loop : goal.invariant-loop
invariant-loop g l = ArePositioned (map (λ log. log.items) l.logs.items) 0

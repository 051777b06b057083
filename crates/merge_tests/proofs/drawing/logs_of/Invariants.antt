use Rattle.std.proofs.Common.{◌≡◌, map}
use Rattle.history_merge.specs.Ordering.{ArePositioned}
use Rattle.merge_tests.proofs.drawing.logs_of.Given as goal

abbrev pub invariant-loop-seat : goal.invariant-loop-seat
invariant-loop-seat g l = record {
  count : l.count ≡ l.seat-index;
  positioned : ArePositioned (map (λ log. log.items) l.logs.items) l.count;
}

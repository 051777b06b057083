use Rattle.std.proofs.Common.{◌≡◌, ◌≤◌}
use Rattle.std.specs.Prelude.{replicate}
use Rattle.std.specs.Vec.{vec_capacity}
use Rattle.io_strands.specs.Cell.{vacant}
use Rattle.io_scheduler.proofs.making.make_strands.Given as goal

abbrev pub invariant-places : goal.invariant-places
invariant-places g l =
    (l.strands.items ≡ replicate l.counter (vacant l.room)) × (l.many ≤ vec_capacity l.strands)

use Rattle.std.proofs.Common.{◌≡◌, ℕ, false}
use Rattle.std.specs.Vec.{vec_len}
use Rattle.io_strands.specs.Cell.{is_there}
use Rattle.io_scheduler.specs.Shown.{cell_at}
use Rattle.io_scheduler.proofs.making.destroy_all.Given as goal

abbrev pub invariant-loop-strand : goal.invariant-loop-strand
invariant-loop-strand g l = (place : ℕ) → is_there (cell_at l.left.items place) ≡ false

abbrev pub decreases-loop-strand : goal.decreases-loop-strand
decreases-loop-strand g l = vec_len l.left

use Rattle.std.proofs.Common.{◌≡◌, None, ℕ}
use Rattle.std.specs.Prelude.{vec_len}
use Rattle.std.specs.List.{slice_index_or}
use Rattle.io_queues.proofs.queues.Queues.destroy.Given as goal

abbrev pub invariant-loop-item : goal.invariant-loop-item
invariant-loop-item g l = (n : ℕ) → slice_index_or l.items.items n None ≡ None

abbrev pub decreases-loop-item : goal.decreases-loop-item
decreases-loop-item g l = vec_len l.items

use Rattle.std.proofs.Common.{◌≡◌, ◌≤◌, ◌+◌}
use Rattle.std.specs.Vec.{vec_len}
use Rattle.io_context.proofs.running.destroy_all.Given as goal

abbrev pub invariant-workers : goal.invariant-workers
invariant-workers g l =
    (l.fn.share.amount ≤ l.share.amount) × (l.share.parts + vec_len l.left ≡ l.fn.share.parts + vec_len l.fn.workers)

abbrev pub decreases-workers : goal.decreases-workers
decreases-workers g l = vec_len l.left

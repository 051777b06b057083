use Rattle.std.proofs.Common.{◌≡◌, ◌≤◌, ◌+◌}
use Rattle.std.specs.Vec.{vec_capacity, vec_len}
use Rattle.io_context.proofs.running.make_workers.Given as goal

abbrev pub invariant-workers : goal.invariant-workers
invariant-workers g l =
    (vec_len l.workers ≡ l.counter) × (l.many ≤ vec_capacity l.workers)
    × (l.share.parts + vec_len l.workers ≡ l.fn.share.parts) × (l.fn.share.amount ≤ l.share.amount)

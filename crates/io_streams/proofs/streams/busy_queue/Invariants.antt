use Rattle.std.proofs.Common.{◌≡◌, ◌<◌, ◌≤◌, ℕ, []}
use Rattle.io_queues.specs.Queued.{queue_at}
use Rattle.io_streams.proofs.streams.busy_queue.Given as goal

-- those before it are empty
abbrev pub invariant-loop-queue : goal.invariant-loop-queue
invariant-loop-queue g l = (k : ℕ) → l.from ≤ k → k < l.queue → queue_at l.queues k ≡ []

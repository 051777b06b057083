use Rattle.std.proofs.Common.{◌≡◌, ◌+◌, All, map}
use Rattle.std.specs.Vec.{vec_len, vec_capacity}
use Rattle.std.specs.VecDeque.{deque_len, deque_capacity}
use Rattle.stream_rules.specs.Pipes.{pipe_stream}
use Rattle.stream_rules.specs.Queue.{asked, reading_side, served_queue}
use Rattle.stream_rules.proofs.QueueLemmas.{ServedSoFar}
use Rattle.stream_rules.proofs.queue.serve_reads.Given as goal

abbrev pub invariant-loop-head : goal.invariant-loop-head
invariant-loop-head g l =
    ServedSoFar reading_side (g.A.Asks.reads l.asks)
    (served_queue reading_side (map (asked (g.A.Asks.reads l.asks)) l.initial.queue.items) (pipe_stream l.initial.pipe))
    l.initial.completed.items l.completed.items l.queue.items (pipe_stream l.pipe)
    × All (λ queued. g.A.Asks.IsReading l.asks queued.op) l.queue.items
    × (vec_len l.completed + deque_len l.queue ≡ vec_len l.initial.completed + deque_len l.initial.queue)
    × (l.pipe.inbound.left ≡ l.initial.pipe.inbound.left)
    × (l.pipe.outbound.left ≡ l.initial.pipe.outbound.left)
    × (vec_capacity l.completed ≡ vec_capacity l.initial.completed)
    × (deque_capacity l.queue ≡ deque_capacity l.initial.queue)

abbrev pub decreases-loop-head : goal.decreases-loop-head
decreases-loop-head g l = deque_len l.queue

-- What is cancelled in the queues of a stream (Asio reference, Overview, "Per-Operation
-- Cancellation"; basic_stream_socket::close).
use Rattle.std.specs.Prelude.{ℕ, ◌≡◌, ◌==◌, nat_lt, Bool, true, false, List, [], ◌∷◌, map}
use Rattle.stream_rules.specs.declared.queue.Completion.{Completion}
use Rattle.history_rules.specs.Performing.{aborted, all_of_stream}
use Rattle.proactor_core.specs.declared.pending.PendingOp.{PendingOp}
use Rattle.proactor_core.specs.Pending.{pending_read, pending_write, progress_in}

abbrev pub is_pending_op : ℕ → PendingOp → Bool
is_pending_op op pending = pending.op == op

-- an operation reports the bytes that it moved so far
abbrev pub abort_of_pending : PendingOp → Completion
abort_of_pending pending = aborted pending.op (progress_in pending).moved

-- whether the operation that was accepted first is a read
abbrev pub pending_reads_go_first : List PendingOp → List PendingOp → Bool
pending_reads_go_first [] writes = false
pending_reads_go_first (read ∷ reads) [] = true
pending_reads_go_first (read ∷ reads) (write ∷ writes) = nat_lt read.accepted write.accepted

-- this operation comes before all others of a stream, which has these left then
abbrev pub IsFirstPending : PendingOp → List PendingOp → List PendingOp → List PendingOp →
    List PendingOp → Type 0
IsFirstPending first reads writes reads_left writes_left =
    all_of_stream (map pending_read reads) (map pending_write writes)
    ≡ abort_of_pending first
    ∷ all_of_stream (map pending_read reads_left) (map pending_write writes_left)

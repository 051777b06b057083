-- How often the reactor has an operation to complete.
use Rattle.std.specs.Prelude.{ℕ, ◌+◌, ◌==◌, Bool, not, ◌&&◌, count_by, sum_by}
use Rattle.session_script.specs.declared.act.Act.{Act}
use Rattle.session_script.specs.Script.{is_operation}
use Rattle.stream_rules.specs.declared.queue.Completion.{Completion}
use Rattle.history_rules.specs.Kinds.{is_posting}
use Rattle.history_rules.specs.Performing.{is_of, is_wait_for}
use Rattle.history_rules.specs.State.{ReactorHalf, StreamQueues}

-- an asynchronous operation: one that the reactor completes
abbrev pub is_awaited : Act → Bool
is_awaited act = is_operation act && not (is_posting act)

abbrev pub is_completion_of : ℕ → Completion → Bool
is_completion_of n completion = completion.op == n

abbrev pub queued_of : ℕ → StreamQueues → ℕ
queued_of n queues = count_by (is_of n) queues.reads + count_by (is_of n) queues.writes

-- how often an operation stands among the waits, in the queues of streams, and among what is due
abbrev pub stands : ℕ → ReactorHalf → ℕ
stands n r =
    count_by (is_wait_for n) r.waits + sum_by (queued_of n) r.queues
    + count_by (is_completion_of n) r.due

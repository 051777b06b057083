-- What the reactor does when it takes a request (Asio reference, steady_timer::expires_after,
-- ::cancel, ::cancel_one and ::async_wait; cancellation_signal::emit; basic_stream_socket::close;
-- async_read and its kin).
use Rattle.std.specs.Prelude.{ℕ, ◌+◌, ◌==◌, nat_lt, Bool, true, false, not, List, [], ◌∷◌, ◌++◌, Option, Some, None, map, filter, find, bit_and, if◌then◌else◌}
use Rattle.std.specs.List.{slice_index_or, slice_set}
use Rattle.asio_types.specs.Faults.{one_more}
use Rattle.asio_types.specs.declared.code.Code.TheVariants as code
use Rattle.session_script.specs.declared.act.Act.{Act}
use Rattle.session_script.specs.declared.act.Act.TheVariants as act
use Rattle.session_script.specs.Script.{ScriptModel, act_of}
use Rattle.stream_rules.specs.declared.queue.Completion.{Completion}
use Rattle.stream_rules.specs.Queue.{Pending}
use Rattle.stream_rules.specs.Serving.{Reading, Writing, Some_bytes, All_bytes, Until, Some_of, All_of}
use Rattle.stream_rules.specs.Stream.{closed_stream}
use Rattle.stream_rules.specs.World.{changed_at}
use Rattle.history_rules.specs.Kinds.{filter_of, supported_by}
use Rattle.history_rules.specs.State.{ReactorHalf, Wait, StreamQueues, no_queues}

-- these have completed, and weren't told
abbrev pub with_due : List Completion → ReactorHalf → ReactorHalf
with_due completed r = record r { due = r.due ++ completed }

abbrev pub aborted : ℕ → ℕ → Completion
aborted op moved = record { op = op; outcome = (code.Aborted, moved) }

-- an operation is connected to its slot, and replaces what was there
abbrev pub connected : Option ℕ → ℕ → ReactorHalf → ReactorHalf
connected None op r = r
connected (Some slot) op r = record r { slots = slice_set r.slots slot (Some op) }

abbrev pub queues_at : ReactorHalf → ℕ → StreamQueues
queues_at r stream = slice_index_or r.queues stream no_queues

abbrev pub with_queues : ReactorHalf → ℕ → StreamQueues → ReactorHalf
with_queues r stream new = record r { queues = slice_set r.queues stream new }

-- an operation that has moved nothing
abbrev pub new_pending : {Asks : Type 0} → ℕ → ℕ → Asks → Pending Asks
new_pending op accepted asks = record { op = op; accepted = accepted; asks = asks; moved = 0 }

-- an operation on a closed stream completes at once
abbrev pub bad : ℕ → Completion
bad op = record { op = op; outcome = (code.Bad, 0) }

-- a reading operation is pending, unless its stream is closed
abbrev pub read_accepted : ℕ → ℕ → Reading → ReactorHalf → ReactorHalf
read_accepted op stream reading r =
    let queues = queues_at r stream in
    if queues.closed then with_due (bad op ∷ []) r
    else with_queues r stream
    (record queues { reads = queues.reads ++ new_pending op r.accepted reading ∷ [] })

-- a writing operation likewise
abbrev pub write_accepted : ℕ → ℕ → Writing → ReactorHalf → ReactorHalf
write_accepted op stream writing r =
    let queues = queues_at r stream in
    if queues.closed then with_due (bad op ∷ []) r
    else with_queues r stream
    (record queues { writes = queues.writes ++ new_pending op r.accepted writing ∷ [] })

-- a wait is pending
abbrev pub wait_accepted : ℕ → ℕ → ReactorHalf → ReactorHalf
wait_accepted op timer r = record r { waits = r.waits ++ record { op = op; timer = timer } ∷ [] }

-- the waits that pass the test are cancelled
abbrev pub waits_cancelled : (Wait → Bool) → ReactorHalf → ReactorHalf
waits_cancelled test r =
    with_due (map (λ wait. aborted wait.op 0) (filter test r.waits))
    (record r { waits = filter (λ wait. not (test wait)) r.waits })

abbrev pub is_wait_of : ℕ → Wait → Bool
is_wait_of timer wait = wait.timer == timer

abbrev pub is_wait_for : ℕ → Wait → Bool
is_wait_for op wait = wait.op == op

-- a wait is cancelled, if there is one
abbrev pub one_wait_cancelled : Option Wait → ReactorHalf → ReactorHalf
one_wait_cancelled None r = r
one_wait_cancelled (Some wait) r = waits_cancelled (is_wait_for wait.op) r

-- a timer gets this expiry, and its waits are cancelled
abbrev pub expiry_set : ℕ → ℕ → ReactorHalf → ReactorHalf
expiry_set timer expiry r =
    waits_cancelled (is_wait_of timer) (record r { expiries = slice_set r.expiries timer expiry })

abbrev pub is_of : {Asks : Type 0} → ℕ → Pending Asks → Bool
is_of op pending = pending.op == op

abbrev pub all_aborted : {Asks : Type 0} → List (Pending Asks) → List Completion
all_aborted queue = map (λ pending. aborted pending.op pending.moved) queue

-- one operation of a stream is cancelled, and reports the bytes that it moved so far
abbrev pub one_of_stream_cancelled : ℕ → ℕ → ReactorHalf → ReactorHalf
one_of_stream_cancelled op stream r =
    let queues = queues_at r stream in
    with_due
    (all_aborted (filter (is_of op) queues.reads)
    ++ all_aborted (filter (is_of op) queues.writes)) (with_queues r stream
    (record queues {
      reads = filter (λ pending. not (is_of op pending)) queues.reads;
      writes = filter (λ pending. not (is_of op pending)) queues.writes;
    }))

-- an operation is cancelled, by what its act is
abbrev pub operation_cancelled : Act → ℕ → ReactorHalf → ReactorHalf
operation_cancelled (act.Wait timer strand slot filter) op r = waits_cancelled (is_wait_for op) r
operation_cancelled (act.ReadSome stream size strand slot filter) op r =
    one_of_stream_cancelled op stream r
operation_cancelled (act.ReadAll stream size strand slot filter) op r =
    one_of_stream_cancelled op stream r
operation_cancelled (act.Until stream delimiter max strand slot filter) op r =
    one_of_stream_cancelled op stream r
operation_cancelled (act.WriteSome stream bytes strand slot filter) op r =
    one_of_stream_cancelled op stream r
operation_cancelled (act.WriteAll stream bytes strand slot filter) op r =
    one_of_stream_cancelled op stream r
operation_cancelled _ op r = r

-- an emit of these types reaches an operation that supports one of them and lets it through
abbrev pub is_reached : Act → ℕ → Bool
is_reached act types = not (bit_and types (bit_and (supported_by act) (filter_of act)) == 0)

abbrev pub emitted_to : Option Act → ℕ → ℕ → ReactorHalf → ReactorHalf
emitted_to None types op r = r
emitted_to (Some act) types op r = if is_reached act types then operation_cancelled act op r else r

abbrev pub emitted : ScriptModel → Option ℕ → ℕ → ReactorHalf → ReactorHalf
emitted script None types r = r
emitted script (Some op) types r = emitted_to (act_of script op) types op r

-- one read, which was accepted then, goes before the writes that were accepted later
abbrev pub with_writes : ℕ → Completion → (List (Pending Writing) → List Completion) →
    List (Pending Writing) → List Completion
with_writes accepted read later [] = read ∷ later []
with_writes accepted read later (write ∷ writes) =
    if nat_lt accepted write.accepted then read ∷ later (write ∷ writes)
    else aborted write.op write.moved ∷ with_writes accepted read later writes

-- all operations of a stream, in order of acceptance
abbrev pub all_of_stream : List (Pending Reading) → List (Pending Writing) → List Completion
all_of_stream [] writes = all_aborted writes
all_of_stream (read ∷ reads) writes =
    with_writes read.accepted (aborted read.op read.moved) (all_of_stream reads) writes

-- an open stream is closed: its operations are cancelled, and its bytes there and its room are
-- dropped
abbrev pub shut_at : ℕ → ReactorHalf → ReactorHalf
shut_at stream r =
    let queues = queues_at r stream in
    with_due (all_of_stream queues.reads queues.writes) (with_queues
    (record r { streams = changed_at stream closed_stream r.streams }) stream
    (record { closed = true; reads = []; writes = [] }))

-- a second close changes nothing
abbrev pub closed_at : ℕ → ReactorHalf → ReactorHalf
closed_at stream r = if (queues_at r stream).closed then r else shut_at stream r

-- a guard holds the context no more
abbrev pub guard_released : ℕ → ReactorHalf → ReactorHalf
guard_released guard r = record r { guards = slice_set r.guards guard false }

-- what performing the act with this number does; a second release or close changes nothing
abbrev pub performed_act : ScriptModel → ℕ → Act → ReactorHalf → ReactorHalf
performed_act script a (act.Wait timer strand slot filter) r =
    connected slot a (wait_accepted a timer r)
performed_act script a (act.ReadSome stream size strand slot filter) r =
    connected slot a (read_accepted a stream (Some_bytes size) r)
performed_act script a (act.ReadAll stream size strand slot filter) r =
    connected slot a (read_accepted a stream (All_bytes size) r)
performed_act script a (act.Until stream delimiter max strand slot filter) r =
    connected slot a (read_accepted a stream (Until delimiter max) r)
performed_act script a (act.WriteSome stream bytes strand slot filter) r =
    connected slot a (write_accepted a stream (Some_of bytes) r)
performed_act script a (act.WriteAll stream bytes strand slot filter) r =
    connected slot a (write_accepted a stream (All_of bytes) r)
performed_act script a (act.Expires timer after) r = expiry_set timer (r.now + after) r
performed_act script a (act.ExpiresAt timer at) r = expiry_set timer at r
performed_act script a (act.Cancel timer) r = waits_cancelled (is_wait_of timer) r
performed_act script a (act.CancelOne timer) r =
    one_wait_cancelled (find (is_wait_of timer) r.waits) r
performed_act script a (act.Emit slot types) r =
    emitted script (slice_index_or r.slots slot None) types r
performed_act script a (act.Close stream) r = closed_at stream r
performed_act script a (act.Release guard) r = guard_released guard r
performed_act script a _ r = r

abbrev pub performed_by : ScriptModel → ℕ → Option Act → ReactorHalf → ReactorHalf
performed_by script a None r = r
performed_by script a (Some act) r = performed_act script a act r

-- one more act was taken
abbrev pub with_taken : ℕ → ReactorHalf → ReactorHalf
with_taken a r = record r { taken = slice_set r.taken a true; accepted = one_more r.accepted }

-- the act is taken and performed
abbrev pub performed : ScriptModel → ℕ → ReactorHalf → ReactorHalf
performed script a r = with_taken a (performed_by script a (act_of script a) r)

-- A stream or a listener is closed (Asio reference, basic_socket::close: all asynchronous operations complete with
-- operation_aborted). One whose system call is under way completes when that has returned.
use Rattle.std.specs.Prelude.{◌≡◌, ◌<◌, ℕ, Bool, true, false, List, [], ◌∷◌, Option, None, Some, filter, length, map, if◌then◌else◌}
use Rattle.asio_types.specs.declared.code.Code.TheVariants as code
use Rattle.io_rules.specs.declared.control.Control.TheVariants as control
use Rattle.io_rules.specs.declared.event.Event.{Event}
use Rattle.io_rules.specs.declared.event.Event.TheVariants as event
use Rattle.io_rules.specs.declared.limits.Limits.{Limits}
use Rattle.io_rules.specs.declared.name.Kind.{Kind}
use Rattle.io_rules.specs.declared.name.Name.{Name}
use Rattle.io_rules.specs.declared.op.Op.{Op}
use Rattle.io_rules.specs.declared.operation.Side.{Side}
use Rattle.io_rules.specs.declared.request.Marks.{Marks}
use Rattle.io_rules.specs.Cancelling.{cancelled, is_out_for, is_settled_by_cancel, pending_of}
use Rattle.io_rules.specs.Changes.{is_out, place_freed, reached}
use Rattle.io_rules.specs.Legal.{MayHappen, state_of}
use Rattle.io_rules.specs.Names.{Names}
use Rattle.io_rules.specs.Ops.{op_at}
use Rattle.io_rules.specs.State.{ContextState, new_stream, stream_at, with_stream}
use Rattle.io_rules.specs.Tries.{moved_by}
use Rattle.io_strands.specs.declared.ready.ReadyOp.{ReadyOp}
use Rattle.io_strands.specs.Cell.{Cell}
use Rattle.io_jobs.specs.Listed.{JobList}
use Rattle.io_streams.specs.declared.pending.PendingOp.{PendingOp}
use Rattle.io_queues.specs.Queued.{found_in}
use Rattle.io_streams.specs.Pending.{Entry, IsHead, IsOnly, StreamList, first_in, forgotten, item_of, number_of, untried_on, with_item}
use Rattle.io_timers.specs.Pending.{Timers}
use Rattle.io_scheduler.specs.declared.counts.Counts.{Counts}
use Rattle.io_scheduler.specs.declared.streaming.Streaming.{Streaming}
use Rattle.io_scheduler.specs.declared.tally.Tally.{Tally}
use Rattle.io_scheduler.specs.declared.waiting.Waiting.{Waiting}
use Rattle.io_scheduler.specs.Opened.{socket_kind}
use Rattle.io_scheduler.specs.Completed.{readied_cells, readied_jobs}
use Rattle.io_scheduler.specs.Settling.{ShowsPending, ended_with}
use Rattle.io_scheduler.specs.Shown.{Shows}
use Rattle.io_scheduler.specs.Streams.{IsStill}
use Rattle.io_scheduler.specs.Tallied.{IsTally}
use Rattle.io_scheduler.specs.Waits.{ShowsWaits}

-- how many bytes an operation has moved so far
abbrev pub moved_of : Option Op → ℕ
moved_of None = 0
moved_of (Some op) = moved_by op.phase

-- what is pending on it completes, in order of acceptance
abbrev pub aborted : ContextState → List ℕ → List Event
aborted s numbers = map (λ n. event.Done n code.Aborted (moved_of (op_at s.ops n))) numbers

-- all of it, but for what a system call is under way for
abbrev pub settled_of : Name → ContextState → List ℕ
settled_of name s = filter (is_settled_by_cancel s) (pending_of name s)

-- it is freed, and then that
abbrev pub closings : Name → ContextState → List Event
closings name s =
    event.Changed None (control.Free (socket_kind (stream_at s.streams name).listener) name)
    ∷ aborted s (settled_of name s)

-- by a handler, which names its kind; where no such thing is there, nothing else happens
abbrev pub frees : Option ℕ → Kind → Name → ContextState → List Event
frees by of name s =
    event.Changed by (control.Free of name)
    ∷ aborted s (filter (is_settled_by_cancel s) (reached s (control.Free of name)))

-- its name is gone, and nothing is at its place, unless that is kept while its socket is in a system call
abbrev pub with_closed : Bool → Name → ContextState → ContextState
with_closed kept name s = record s {
  names = record s.names { streams = place_freed true kept name s.names.streams };
  streams = if kept then s.streams else with_stream name new_stream s.streams;
}

abbrev pub numbers_of : {T : Type 0} → List (Entry (PendingOp T)) → List ℕ
numbers_of ops = map number_of ops

-- the pending operations of a kept stream complete
abbrev pub aborted_ops : {H : Type 0} → List (Entry (PendingOp (Streaming H))) → List Event
aborted_ops ops = map (λ it. event.Done it.item.op code.Aborted it.item.item.moved) ops

-- nothing but a system call settles the first operation of any side, but maybe of those of this stream for which
-- none is under way
abbrev pub StillApart : {H : Type 0} → Name → StreamList (Streaming H) → Type 0
StillApart {H} name streams = (other : Name) (on : Side) (op : PendingOp (Streaming H)) →
    IsHead other on streams op →
    (name.place ≡ other.place → is_out_for on (stream_at streams.streams other).out ≡ false → ⊥) →
    IsStill (stream_at streams.streams other) op.item

-- a cancellation reaches an operation during its system call
abbrev pub marked : {H : Type 0} → Streaming H → Streaming H
marked item = record item { cancelled = true }

abbrev pub marked_if : {H : Type 0} → ℕ → Option (Streaming H) → StreamList (Streaming H) → StreamList (Streaming H)
marked_if place None s = s
marked_if place (Some item) s = with_item place (marked item) s

abbrev pub marked_at : {H : Type 0} → ℕ → StreamList (Streaming H) → StreamList (Streaming H)
marked_at place s = marked_if place (item_of (found_in place s.ops)) s

-- it is the first of this side, at this place
pub record IsMarked {H : Type 0} (name : Name) (side : Side) (old new : StreamList (Streaming H)) : Type 0 where
  pub place : ℕ
  pub op : PendingOp (Streaming H)
  pub found : found_in place old.ops ≡ Some op
  pub head : IsHead name side old op
  pub is : new ≡ with_item place (marked op.item) old

-- if the socket is in a system call
abbrev pub IsMarkedIf : {H : Type 0} → Option Side → Name → StreamList (Streaming H) → StreamList (Streaming H) → Type 0
IsMarkedIf None name old new = new ≡ old
IsMarkedIf (Some side) name old new = IsMarked name side old new

-- nothing is at its place, unless its socket is in a system call
abbrev pub vacated : {T : Type 0} → Name → StreamList T → StreamList T
vacated name s = if is_out (stream_at s.streams name).out then s else forgotten name s

-- these names, without its
abbrev pub names_closed : Bool → Name → Names → Names
names_closed kept name names = record names { streams = place_freed true kept name names.streams }

-- what is kept shows a state in which the operations that are left are still pending on it, while in the state of
-- the history they are settled, and it is gone
pub record IsClosing {H S : Type 0} (marks : H → Marks) (limits : Limits) (counts : Counts) (names : Names)
    (cells : List (Cell H S)) (jobs : JobList (ReadyOp H)) (timers : Timers (Waiting H))
    (streams : StreamList (Streaming H)) (tally : Tally) (name : Name) (s : ContextState) : Type 0 where
  pub waiting : ContextState
  pub is : s ≡ with_closed (is_out (stream_at streams.streams name).out) name
      (cancelled (numbers_of (untried_on name streams)) waiting)
  pub within : name.place < length streams.streams
  pub only : IsOnly name streams.ops
  pub shows : Shows marks limits counts names cells jobs waiting
  pub waits : ShowsWaits marks limits timers waiting
  pub tallied : IsTally tally waiting
  pub pending : ShowsPending marks limits streams waiting
  pub still : StillApart name streams

-- the first of these has completed
pub record HasOneAborted {H : Type 0} (limits : Limits) (ops left : List (Entry (PendingOp (Streaming H)))) (old new : List Event) :
    Type 0 where
  pub op : Entry (PendingOp (Streaming H))
  pub first : ops ≡ op ∷ left
  pub may : MayHappen (state_of limits old) (event.Done op.item.op code.Aborted op.item.item.moved)
  pub is : new ≡ event.Done op.item.op code.Aborted op.item.item.moved ∷ old

-- it is ready, with its own buffer
pub record IsOneReadied {H S : Type 0} (name : Name) (streams : StreamList (Streaming H)) (cells new_cells : List (Cell H S))
    (jobs new_jobs : JobList (ReadyOp H)) : Type 0 where
  pub op : PendingOp (Streaming H)
  pub first : first_in (untried_on name streams) ≡ Some op
  pub on_cells : new_cells ≡ readied_cells op.item.lane (ended_with op code.Aborted op.item.moved None) cells
  pub on_jobs : new_jobs ≡ readied_jobs op.item.lane (ended_with op code.Aborted op.item.moved None) cells jobs

-- or there is none
abbrev pub IsOneAbortedIf : {H : Type 0} → Bool → Limits → List (Entry (PendingOp (Streaming H))) →
    List (Entry (PendingOp (Streaming H))) → List Event → List Event → Type 0
IsOneAbortedIf true limits ops left old new = HasOneAborted limits ops left old new
IsOneAbortedIf false limits ops left old new = (ops ≡ []) × (left ≡ []) × (new ≡ old)

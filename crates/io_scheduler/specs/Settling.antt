-- The first operation of a side is settled, and hasn't completed yet (Asio reference, Overview, "The
-- Proactor Design Pattern"): what is kept shows a state in which it is still pending.
use Rattle.std.specs.Prelude.{◌≡◌, ◌<◌, ◌^◌, ◌+◌, ◌==◌, ℕ, nat_le, Bool, true, false, if◌then◌else◌, Option, None, List, [], ◌∷◌, ◌++◌, Some, length, map}
use Rattle.asio_types.specs.declared.code.Code.{Code}
use Rattle.asio_types.specs.declared.code.Code.TheVariants as code
use Rattle.io_rules.specs.declared.event.Event.{Event}
use Rattle.io_rules.specs.declared.event.Event.TheVariants as event
use Rattle.io_rules.specs.declared.limits.Limits.{Limits}
use Rattle.io_rules.specs.declared.name.Lane.{Lane}
use Rattle.io_rules.specs.declared.name.Name.{Name}
use Rattle.io_rules.specs.declared.op.Phase.TheVariants as phase
use Rattle.io_rules.specs.declared.operation.Operation.{Operation}
use Rattle.io_rules.specs.declared.operation.Operation.TheVariants as operation
use Rattle.io_rules.specs.declared.operation.Side.{Side}
use Rattle.io_rules.specs.declared.request.Marks.{Marks}
use Rattle.io_rules.specs.Cancelling.{is_out_for}
use Rattle.io_rules.specs.Completing.{streams_left}
use Rattle.io_rules.specs.Legal.{MayHappen, state_of}
use Rattle.io_rules.specs.Names.{Names}
use Rattle.io_rules.specs.Operations.{Target, at}
use Rattle.io_rules.specs.Ops.{with_phase}
use Rattle.io_rules.specs.Serving.{first_of, served}
use Rattle.io_rules.specs.State.{ContextState, stream_at}
use Rattle.io_queues.specs.Queued.{found_in}
use Rattle.io_strands.specs.declared.ready.ReadyOp.{ReadyOp}
use Rattle.io_strands.specs.Cell.{Cell}
use Rattle.io_jobs.specs.Listed.{JobList}
use Rattle.io_streams.specs.declared.pending.PendingOp.{PendingOp}
use Rattle.io_streams.specs.Pending.{IsHead, StreamList}
use Rattle.io_timers.specs.Pending.{Timers}
use Rattle.io_scheduler.specs.declared.counts.Counts.{Counts}
use Rattle.io_scheduler.specs.declared.settling.Gets.{Gets}
use Rattle.io_scheduler.specs.declared.streaming.Streaming.{Streaming}
use Rattle.io_scheduler.specs.declared.tally.Tally.{Tally}
use Rattle.io_scheduler.specs.declared.waiting.Waiting.{Waiting}
use Rattle.io_scheduler.specs.Come.{HaveCome}
use Rattle.io_scheduler.specs.Completed.{completed_state, readied_cells, readied_jobs}
use Rattle.io_scheduler.specs.Shown.{Shows}
use Rattle.io_scheduler.specs.Streaming.{on_streams}
use Rattle.io_scheduler.specs.Streams.{AreStreaming, IsPlain, IsStill}
use Rattle.io_scheduler.specs.Tallied.{IsTally}
use Rattle.io_scheduler.specs.Waits.{ShowsWaits}

-- how an operation completes
pub record Ends : Type 0 where
  pub op : ℕ
  pub code : Code
  pub size : ℕ

-- these complete, in this order
abbrev pub all_done : List Ends → List Event
all_done ends = map (λ (it : Ends). event.Done it.op it.code it.size) ends

-- one has completed
pub record HasSettled (limits : Limits) (old new : List Event) : Type 0 where
  pub ends : Ends
  pub may : MayHappen (state_of limits old) (event.Done ends.op ends.code ends.size)
  pub is : new ≡ event.Done ends.op ends.code ends.size ∷ old

abbrev pub IsSettledIf : Bool → Limits → List Event → List Event → Type 0
IsSettledIf true limits old new = HasSettled limits old new
IsSettledIf false limits old new = new ≡ old

-- operations of a side have completed, and nothing else has happened
pub record HaveSettled (limits : Limits) (old new : List Event) : Type 0 where
  pub ends : List Ends
  pub come : HaveCome limits (all_done ends) old new

-- it is settled so
abbrev pub with_settled : ℕ → Code → ℕ → ContextState → ContextState
with_settled n given size s = record s {
  ops = with_phase n (phase.Settled given size) s.ops;
  settled = s.settled ++ n ∷ [];
}

-- an operation of a stream that completes leaves its side
abbrev pub op_done : ℕ → Code → ℕ → Lane → Target → ContextState → ContextState
op_done n given size on target s =
    record (completed_state n given size on [] s.waits s) { streams = streams_left n (Some target) s.streams }

-- which operations are pending on streams
pub record ShowsPending {H : Type 0} (marks : H → Marks) (limits : Limits) (streams : StreamList (Streaming H))
    (s : ContextState) : Type 0 where
  pub streams_are : streams.streams ≡ s.streams
  pub places : length s.streams ≡ length s.names.streams
  pub few : length s.streams < 2 ^ 32
  pub each : AreStreaming marks s.ops streams.ops
  pub all : length streams.ops ≡ on_streams s.streams
  pub room : streams.room + length streams.ops ≡ limits.operations
  pub plain : (name : Name) → IsPlain (stream_at s.streams name)
  pub busy : (name : Name) (side : Side) → is_out_for side (stream_at s.streams name).out ≡ true →
      first_of side (stream_at s.streams name) ≡ None → ⊥

-- nothing but a system call settles the first operation of any side, but maybe of this one
abbrev pub StillBut : {H : Type 0} → Name → Side → StreamList (Streaming H) → Type 0
StillBut {H} name side streams = (other : Name) (on : Side) (op : PendingOp (Streaming H)) →
    IsHead other on streams op → (name.place ≡ other.place → side ≡ on → ⊥) →
    IsStill (stream_at streams.streams other) op.item

-- the first operation of a side gets what it can with no system call
pub record IsServing {H S : Type 0} (marks : H → Marks) (limits : Limits) (counts : Counts) (names : Names)
    (cells : List (Cell H S)) (jobs : JobList (ReadyOp H)) (timers : Timers (Waiting H))
    (streams : StreamList (Streaming H)) (tally : Tally) (name : Name) (side : Side) (s : ContextState) : Type 0 where
  pub waiting : ContextState
  pub is : s ≡ served (at name side) waiting
  pub back : is_out_for side (stream_at waiting.streams name).out ≡ false
  pub within : name.place < length streams.streams
  pub shows : Shows marks limits counts names cells jobs waiting
  pub waits : ShowsWaits marks limits timers waiting
  pub tallied : IsTally tally waiting
  pub pending : ShowsPending marks limits streams waiting
  pub still : StillBut name side streams

-- the first operation of a side, at this place, is settled so
pub record IsSettling {H S : Type 0} (marks : H → Marks) (limits : Limits) (counts : Counts) (names : Names)
    (cells : List (Cell H S)) (jobs : JobList (ReadyOp H)) (timers : Timers (Waiting H))
    (streams : StreamList (Streaming H)) (tally : Tally) (name : Name) (side : Side) (place : ℕ) (given : Code)
    (size : ℕ) (s : ContextState) : Type 0 where
  pub waiting : ContextState
  pub op : PendingOp (Streaming H)
  pub found : found_in place streams.ops ≡ Some op
  pub head : IsHead name side streams op
  pub is : s ≡ with_settled op.op given size waiting
  pub back : is_out_for side (stream_at waiting.streams name).out ≡ false
  pub within : name.place < length streams.streams
  pub shows : Shows marks limits counts names cells jobs waiting
  pub waits : ShowsWaits marks limits timers waiting
  pub tallied : IsTally tally waiting
  pub pending : ShowsPending marks limits streams waiting
  pub still : StillBut name side streams

-- the operation at this place is ready, as it ended: its buffer goes to its handler, with the name of what it
-- made
abbrev pub ended_with : {H : Type 0} → PendingOp (Streaming H) → Code → ℕ → Option Name → ReadyOp H
ended_with op given size made = record {
  number = op.op;
  code = given;
  size = size;
  buffer = op.item.buffer;
  made = made;
  handler = op.item.handler;
}

pub record IsReadied {H S : Type 0} (place : ℕ) (given : Code) (size : ℕ) (made : Option Name)
    (streams : StreamList (Streaming H)) (cells new_cells : List (Cell H S)) (jobs new_jobs : JobList (ReadyOp H)) :
    Type 0 where
  pub op : PendingOp (Streaming H)
  pub found : found_in place streams.ops ≡ Some op
  pub on_cells : new_cells ≡ readied_cells op.item.lane (ended_with op given size made) cells
  pub on_jobs : new_jobs ≡ readied_jobs op.item.lane (ended_with op given size made) cells jobs

abbrev pub gets_if : Bool → Code → ℕ → Option Gets
gets_if false given size = None
gets_if true given size = Some (record { code = given; size = size })

-- on a stream that is connected and holds nothing
abbrev pub linked_gets : Operation → ℕ → Option Gets
linked_gets (operation.ReadSome stream size) moved = gets_if (size == 0) code.Ok 0
linked_gets (operation.ReadAll stream size) moved = gets_if (nat_le size moved) code.Ok size
linked_gets (operation.ReadUntil stream max) moved = gets_if (nat_le max 0) code.NotFound 0
linked_gets (operation.WriteSome stream size) moved = gets_if (size == 0) code.Ok 0
linked_gets (operation.WriteAll stream size) moved = gets_if (size == 0) code.Ok 0
linked_gets kind moved = None

-- how the first operation of a side settles with no system call, if it does: where there is no connection, or
-- it has an empty buffer
abbrev pub gets_at_once : Bool → Operation → ℕ → Option Gets
gets_at_once linked (operation.Accept listener) moved = None
gets_at_once linked (operation.Connect stream) moved = gets_if linked code.Bad moved
gets_at_once linked kind moved =
    if linked then linked_gets kind moved else Some (record { code = code.Bad; size = moved })

-- the first operation of a side, at this place, settles so with no system call
pub record IsAtOnce {H : Type 0} (name : Name) (side : Side) (streams : StreamList (Streaming H)) (place : ℕ)
    (given : Code) (size : ℕ) : Type 0 where
  pub op : PendingOp (Streaming H)
  pub found : found_in place streams.ops ≡ Some op
  pub head : IsHead name side streams op
  pub gets : gets_at_once (stream_at streams.streams name).linked op.item.kind op.item.moved
      ≡ Some (record { code = given; size = size })

-- none is pending there, or the first one doesn't
pub data IsNotAtOnce {H : Type 0} (name : Name) (side : Side) (streams : StreamList (Streaming H)) : Type 0 where
  has_none : first_of side (stream_at streams.streams name) ≡ None → IsNotAtOnce name side streams
  stays_first : (op : PendingOp (Streaming H)) → IsHead name side streams op →
      gets_at_once (stream_at streams.streams name).linked op.item.kind op.item.moved ≡ None →
      IsNotAtOnce name side streams

-- Which operations are pending on streams, with their handlers and buffers, shows what is pending there in the
-- state of the history (Asio reference, basic_stream_socket, basic_socket_acceptor).
use Rattle.std.specs.Prelude.{◌≡◌, ◌<◌, ℕ, ◌+◌, ◌^◌, true, List, [], ◌∷◌, Some, None, length}
use Rattle.io_rules.specs.declared.limits.Limits.{Limits}
use Rattle.io_rules.specs.declared.name.Name.{Name}
use Rattle.io_rules.specs.declared.op.Op.{Op}
use Rattle.io_rules.specs.declared.op.Phase.TheVariants as phase
use Rattle.io_rules.specs.declared.operation.Side.{Side}
use Rattle.io_rules.specs.declared.request.Marks.{Marks}
use Rattle.io_rules.specs.Cancelling.{is_out_for}
use Rattle.io_rules.specs.Operations.{Target, at, target_of}
use Rattle.io_rules.specs.Ops.{is_pending, op_at}
use Rattle.io_rules.specs.Serving.{first_of, served_on, stays}
use Rattle.io_rules.specs.State.{ContextState, StreamState, stream_at}
use Rattle.io_streams.specs.declared.pending.PendingOp.{PendingOp}
use Rattle.io_streams.specs.Pending.{Entry, IsHead, StreamList}
use Rattle.io_scheduler.specs.declared.streaming.Streaming.{Streaming}
use Rattle.io_scheduler.specs.Streaming.{on_streams}

-- an operation with its handler: it waits on this side, and then for a handler's turn on this lane
pub record IsStreamingAs {H : Type 0} (marks : H → Marks) (ops : List Op) (it : PendingOp (Streaming H)) :
    Type 0 where
  pub op : Op
  pub is : op_at ops it.op ≡ Some op
  pub lane : op.lane ≡ it.item.lane
  pub binding : op.binding ≡ None
  pub kind : op.kind ≡ it.item.kind
  pub target : target_of it.item.kind ≡ at it.stream it.side
  pub given : op.marks ≡ marks it.item.handler
  pub phase : op.phase ≡ phase.Pending it.item.moved it.item.cancelled

abbrev pub AreStreaming : {H : Type 0} → (H → Marks) → List Op → List (Entry (PendingOp (Streaming H))) → Type 0
AreStreaming marks ops [] = Unit {0}
AreStreaming marks ops (it ∷ rest) = IsStreamingAs marks ops it.item × AreStreaming marks ops rest

-- no bytes are held, and no connect is pending
pub record IsPlain (stream : StreamState) : Type 0 where
  pub held : stream.held ≡ 0
  pub searched : stream.searched ≡ 0
  pub connects : stream.connects ≡ []

-- nothing but a system call settles it where it is the first of its side
abbrev pub IsStill : {H : Type 0} → StreamState → Streaming H → Type 0
IsStill stream it =
    served_on stream it.moved it.cancelled it.kind ≡ stays it.moved it.cancelled stream.held

pub record ShowsStreams {H : Type 0} (marks : H → Marks) (limits : Limits) (streams : StreamList (Streaming H))
    (s : ContextState) : Type 0 where
  pub streams_are : streams.streams ≡ s.streams
  pub places : length s.streams ≡ length s.names.streams
  pub few : length s.streams < 2 ^ 32
  pub each : AreStreaming marks s.ops streams.ops
  -- nothing else is pending on a stream
  pub all : length streams.ops ≡ on_streams s.streams
  pub room : streams.room + length streams.ops ≡ limits.operations
  pub plain : (name : Name) → IsPlain (stream_at s.streams name)
  -- so it is with all that are first
  pub heads : (name : Name) (side : Side) (op : PendingOp (Streaming H)) → IsHead name side streams op →
      IsStill (stream_at streams.streams name) op.item
  -- a system call under way is for an operation that is there
  pub busy : (name : Name) (side : Side) → is_out_for side (stream_at s.streams name).out ≡ true →
      first_of side (stream_at s.streams name) ≡ None → ⊥

-- as far as streams go, nothing has changed
pub record StaysStreaming (s new : ContextState) : Type 0 where
  pub streams : new.streams ≡ s.streams
  pub places : length new.names.streams ≡ length s.names.streams
  pub ops : (n : ℕ) (it : Op) (target : Target) → op_at s.ops n ≡ Some it → is_pending it.phase ≡ true →
      target_of it.kind ≡ Some target → op_at new.ops n ≡ Some it

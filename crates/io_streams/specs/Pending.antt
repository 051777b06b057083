-- Streams and listeners, and the operations that are pending on their sides (Asio reference,
-- basic_stream_socket, basic_socket_acceptor; Overview, "The Proactor Design Pattern").
use Rattle.std.specs.Prelude.{◌≡◌, ℕ, ◌+◌, ◌-◌, ◌==◌, ◌&&◌, cond, not, Bool, List, [], ◌∷◌, ◌++◌, Option, Some, None, filter, map, replicate, true}
use Rattle.io_rules.specs.declared.name.Name.{Name}
use Rattle.io_rules.specs.declared.operation.Side.{Side}
use Rattle.io_rules.specs.declared.request.Gone.TheVariants as gone
use Rattle.io_rules.specs.Calls.{streams_called}
use Rattle.io_rules.specs.Cancelling.{is_first, is_out_for, same_side}
use Rattle.io_rules.specs.Completing.{streams_left}
use Rattle.io_rules.specs.Names.{same_name}
use Rattle.io_rules.specs.Operations.{at}
use Rattle.io_rules.specs.Serving.{first_of}
use Rattle.io_rules.specs.State.{StreamState, new_stream, stream_at, with_stream}
-- what is pending, and at which place
pub use Rattle.io_queues.specs.Queued.{Entry}
use Rattle.io_queues.specs.Ordered.{numbered_in as numbered_by}
use Rattle.io_streams.specs.declared.pending.PendingOp.{PendingOp}

pub record StreamList (T : Type 0) : Type 0 where
  -- by place
  pub streams : List StreamState
  -- the pending operations of all streams, in order of acceptance
  pub ops : List (Entry (PendingOp T))
  -- for how many more there is room
  pub room : ℕ

abbrev pub op_of : {T : Type 0} → PendingOp T → ℕ
op_of op = op.op

abbrev pub number_of : {T : Type 0} → Entry (PendingOp T) → ℕ
number_of op = op.item.op

abbrev pub no_streams : {T : Type 0} → ℕ → ℕ → StreamList T
no_streams streams room = record { streams = replicate streams new_stream; ops = []; room = room }

-- one more is pending, and goes last on its side
abbrev pub with_op : {T : Type 0} → Entry (PendingOp T) → StreamList T → StreamList T
with_op op s = record s {
  streams = streams_called op.item.op gone.Nothing (at op.item.stream op.item.side) s.streams;
  ops = s.ops ++ op ∷ [];
  room = s.room - 1;
}

abbrev pub is_other : {T : Type 0} → ℕ → Entry (PendingOp T) → Bool
is_other op pending = not (pending.item.op == op)

-- this operation is out, and has left its side
abbrev pub without_op : {T : Type 0} → PendingOp T → StreamList T → StreamList T
without_op op s = record s {
  streams = streams_left op.op (at op.stream op.side) s.streams;
  ops = filter (is_other op.op) s.ops;
  room = s.room + 1;
}

-- the stream of this name has come to this
abbrev pub with_state : {T : Type 0} → Name → StreamState → StreamList T → StreamList T
with_state name stream s = record s { streams = with_stream name stream s.streams }

-- a stream or a listener is made
abbrev pub opened : {T : Type 0} → Name → Bool → Bool → StreamList T → StreamList T
opened name listener linked s =
    with_state name (record new_stream { listener = listener; linked = linked }) s

-- it is gone
abbrev pub forgotten : {T : Type 0} → Name → StreamList T → StreamList T
forgotten name s = with_state name new_stream s

-- its socket goes into a system call for this side
abbrev pub out_for : {T : Type 0} → Name → Side → Option Name → StreamList T → StreamList T
out_for name side reserved s =
    with_state name (record (stream_at s.streams name) { out = Some side; reserved = reserved }) s

-- its socket is back
abbrev pub back_in : {T : Type 0} → Name → StreamList T → StreamList T
back_in name s = with_state name (record (stream_at s.streams name) { out = None; reserved = None }) s

abbrev pub connected : {T : Type 0} → Name → StreamList T → StreamList T
connected name s = with_state name (record (stream_at s.streams name) { linked = true }) s

-- no operation is pending on any side
pub record IsIdle (stream : StreamState) : Type 0 where
  pub reads : stream.reads ≡ []
  pub writes : stream.writes ≡ []
  pub connects : stream.connects ≡ []

-- the one with this number
abbrev pub numbered_in : {T : Type 0} → ℕ → List (Entry (PendingOp T)) → Option (PendingOp T)
numbered_in op ops = numbered_by op_of op ops

-- it is the first operation of this side
pub record IsHead {T : Type 0} (name : Name) (side : Side) (s : StreamList T) (op : PendingOp T) : Type 0 where
  pub first : first_of side (stream_at s.streams name) ≡ Some op.op
  pub numbered : numbered_in op.op s.ops ≡ Some op
  pub place : op.stream.place ≡ name.place
  pub on : op.side ≡ side

-- what goes with an operation
abbrev pub item_of : {T : Type 0} → Option (PendingOp T) → Option T
item_of None = None
item_of (Some op) = Some op.item

-- something else goes with the operation at a place
abbrev pub item_put : {T : Type 0} → ℕ → T → Entry (PendingOp T) → Entry (PendingOp T)
item_put place item op =
    cond (op.place == place) (record op { item = record op.item { item = item } }) op

abbrev pub with_item : {T : Type 0} → ℕ → T → StreamList T → StreamList T
with_item place item s = record s { ops = map (item_put place item) s.ops }

-- it is an operation of this stream
abbrev pub is_of : {T : Type 0} → Name → Entry (PendingOp T) → Bool
is_of name op = same_name op.item.stream name

-- each operation at the place of this stream is one of this stream
abbrev pub IsOnly : {T : Type 0} → Name → List (Entry (PendingOp T)) → Type 0
IsOnly name [] = Unit {0}
IsOnly name (op ∷ ops) = ((op.item.stream.place == name.place) ≡ is_of name op) × IsOnly name ops

-- its system call is under way
abbrev pub is_tried_in : {T : Type 0} → StreamState → PendingOp T → Bool
is_tried_in stream op = is_out_for op.side stream.out && is_first (first_of op.side stream) op.op

-- the operations of a stream, in order of acceptance, but for the one whose system call is under way
abbrev pub untried_on : {T : Type 0} → Name → StreamList T → List (Entry (PendingOp T))
untried_on name s =
    filter (λ op. is_of name op && not (is_tried_in (stream_at s.streams name) op.item)) s.ops

abbrev pub first_in : {T : Type 0} → List (Entry (PendingOp T)) → Option (PendingOp T)
first_in [] = None
first_in (op ∷ ops) = Some op.item

-- it is an operation of this side of the stream at this place
abbrev pub is_at : {T : Type 0} → ℕ → Side → Entry (PendingOp T) → Bool
is_at place side op = (op.item.stream.place == place) && same_side op.item.side side

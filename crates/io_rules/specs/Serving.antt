-- What settles the first operation of a side with no system call (Asio reference, async_read_some,
-- async_read, async_read_until, async_write_some, async_write, async_connect): a buffer of size 0, the
-- bytes that the stream holds, or that there is no connection.
use Rattle.std.specs.Prelude.{ℕ, ◌+◌, ◌-◌, ◌==◌, ◌&&◌, nat_le, min, Bool, true, false, not, List, [], ◌∷◌, ◌++◌, Option, Some, None, slice_get, if◌then◌else◌}
use Rattle.asio_types.specs.declared.code.Code.{Code}
use Rattle.asio_types.specs.declared.code.Code.TheVariants as code
use Rattle.io_rules.specs.declared.op.Phase.TheVariants as phase
use Rattle.io_rules.specs.declared.operation.Operation.{Operation}
use Rattle.io_rules.specs.declared.operation.Operation.TheVariants as operation
use Rattle.io_rules.specs.declared.operation.Side.{Side}
use Rattle.io_rules.specs.declared.operation.Side.TheVariants as side
use Rattle.io_rules.specs.Cancelling.{is_out_for, queue_of}
use Rattle.io_rules.specs.Operations.{Target}
use Rattle.io_rules.specs.Ops.{op_at, phase_changed_of, is_pending, is_settled}
use Rattle.io_rules.specs.State.{ContextState, Op, Phase, StreamState, stream_at, with_stream}

abbrev pub with_queue : Side → List ℕ → StreamState → StreamState
with_queue side.Read queue s = record s { reads = queue }
with_queue side.Write queue s = record s { writes = queue }
with_queue side.Connect queue s = record s { connects = queue }

-- the bytes of a stream are these now
abbrev pub with_held : ℕ → ℕ → StreamState → StreamState
with_held held searched s = record s { held = held; searched = searched }

abbrev pub is_none_of : List ℕ → Bool
is_none_of [] = true
is_none_of _ = false

-- what becomes of an operation: its phase, and the bytes that the stream holds then
pub record Served : Type 0 where
  pub phase : Phase
  pub held : ℕ

abbrev pub stays : ℕ → Bool → ℕ → Served
stays moved cancelled held = record { phase = phase.Pending moved cancelled; held = held }

abbrev pub settles : Code → ℕ → ℕ → Served
settles code size held = record { phase = phase.Settled code size; held = held }

-- a read of some bytes gets as many as there are, at most its size
abbrev pub served_some : ℕ → ℕ → Bool → ℕ → Served
served_some size moved cancelled held =
    if (size == 0) then settles code.Ok 0 held
    else if (held == 0) then stays moved cancelled held
    else settles code.Ok (min size held) (held - min size held)

-- a read of so many gets all that are there, until it has them
abbrev pub served_all : ℕ → ℕ → Bool → ℕ → Served
served_all size moved cancelled held =
    if nat_le size (moved + held) then settles code.Ok size (held - (size - moved))
    else stays (moved + held) cancelled 0

-- a read up to a delimiter fails where it isn't among as many bytes as it may take
abbrev pub served_until : ℕ → ℕ → ℕ → Bool → ℕ → Served
served_until max searched moved cancelled held =
    if nat_le max searched then settles code.NotFound 0 held else stays moved cancelled held

abbrev pub served_write : ℕ → ℕ → Bool → ℕ → Served
served_write size moved cancelled held =
    if (size == 0) then settles code.Ok 0 held else stays moved cancelled held

-- a second connect of a stream fails
abbrev pub served_connect : Bool → ℕ → Bool → ℕ → Served
served_connect linked moved cancelled held =
    if linked then settles code.Bad moved held else stays moved cancelled held

-- on a stream that is connected
abbrev pub served_linked : StreamState → ℕ → Bool → Operation → Served
served_linked s moved cancelled (operation.ReadSome stream size) =
    served_some size moved cancelled s.held
served_linked s moved cancelled (operation.ReadAll stream size) =
    served_all size moved cancelled s.held
served_linked s moved cancelled (operation.ReadUntil stream max) =
    served_until max s.searched moved cancelled s.held
served_linked s moved cancelled (operation.WriteSome stream size) =
    served_write size moved cancelled s.held
served_linked s moved cancelled (operation.WriteAll stream size) =
    served_write size moved cancelled s.held
served_linked s moved cancelled _ = stays moved cancelled s.held

-- reads and writes wait for connects, and fail where none is pending; accepts and connects need none
abbrev pub served_on : StreamState → ℕ → Bool → Operation → Served
served_on s moved cancelled (operation.Accept listener) = stays moved cancelled s.held
served_on s moved cancelled (operation.Connect stream) =
    served_connect s.linked moved cancelled s.held
served_on s moved cancelled kind =
    if not (is_none_of s.connects) then stays moved cancelled s.held
    else if s.linked then served_linked s moved cancelled kind
    else settles code.Bad moved s.held

abbrev pub served_phase : StreamState → Operation → Phase → Served
served_phase s kind (phase.Pending moved cancelled) = served_on s moved cancelled kind
served_phase s kind other = record { phase = other; held = s.held }

-- the first of a side, unless its system call is under way
abbrev pub served_op : StreamState → Side → Op → Served
served_op s side op =
    if is_out_for side s.out then record { phase = op.phase; held = s.held }
    else served_phase s op.kind op.phase

abbrev pub first_of : Side → StreamState → Option ℕ
first_of side s = slice_get (queue_of side s) 0

abbrev pub now_settled : StreamState → Side → Option Op → List ℕ
now_settled s side None = []
now_settled s side (Some op) =
    if is_pending op.phase && is_settled (served_op s side op).phase then op.number ∷ [] else []

abbrev pub now_held : StreamState → Side → Option Op → ℕ
now_held s side None = s.held
now_held s side (Some op) = (served_op s side op).held

abbrev pub op_of : List Op → Option ℕ → Option Op
op_of ops None = None
op_of ops (Some n) = op_at ops n

abbrev pub first_op : ContextState → Target → Option Op
first_op s target = op_of s.ops (first_of target.side (stream_at s.streams target.stream))

abbrev pub ops_served : ContextState → Option Target → List Op
ops_served s None = s.ops
ops_served s (Some target) =
    let stream = stream_at s.streams target.stream in
    phase_changed_of (first_of target.side stream)
    (λ op. (served_op stream target.side op).phase) s.ops

abbrev pub settled_served : ContextState → Option Target → List ℕ
settled_served s None = []
settled_served s (Some target) =
    now_settled (stream_at s.streams target.stream) target.side (first_op s target)

abbrev pub streams_served : ContextState → Option Target → List StreamState
streams_served s None = s.streams
streams_served s (Some target) =
    let stream = stream_at s.streams target.stream in
    let held = now_held stream target.side (first_op s target) in
    with_stream target.stream (with_held held (min stream.searched held) stream) s.streams

-- the first operation of this side, if any, gets what it can
abbrev pub served : Option Target → ContextState → ContextState
served target s = record s {
  ops = ops_served s target;
  settled = s.settled ++ settled_served s target;
  streams = streams_served s target;
}

-- Cancelling operations (Asio reference, basic_waitable_timer::cancel and ::cancel_one,
-- basic_socket::cancel and ::close, cancellation_signal::emit; Overview, "Per-Operation
-- Cancellation"). One whose system call is under way is marked, and completes when that is back.
use Rattle.std.specs.Prelude.{ℕ, ◌==◌, ◌&&◌, Bool, true, false, not, List, [], ◌∷◌, ◌++◌, Option, Some, None, map, filter, slice_get, if◌then◌else◌}
use Rattle.std.specs.List.{list_any}
use Rattle.asio_types.specs.declared.code.Code.TheVariants as code
use Rattle.io_rules.specs.declared.name.Name.{Name}
use Rattle.io_rules.specs.declared.op.Phase.TheVariants as phase
use Rattle.io_rules.specs.declared.operation.Side.{Side}
use Rattle.io_rules.specs.declared.operation.Side.TheVariants as side
use Rattle.io_rules.specs.Names.{same_name, is_current}
use Rattle.io_rules.specs.Operations.{Target, target_of, is_reached_by}
use Rattle.io_rules.specs.Ops.{op_at, phase_changed, is_pending}
use Rattle.io_rules.specs.State.{ContextState, Op, Phase, StreamState, slot_at, stream_at}

-- the operations of one side
abbrev pub queue_of : Side → StreamState → List ℕ
queue_of side.Read s = s.reads
queue_of side.Write s = s.writes
queue_of side.Connect s = s.connects

abbrev pub same_side : Side → Side → Bool
same_side side.Read side.Read = true
same_side side.Write side.Write = true
same_side side.Connect side.Connect = true
same_side _ _ = false

-- its socket is in a system call for this side
abbrev pub is_out_for : Side → Option Side → Bool
is_out_for side None = false
is_out_for side (Some out) = same_side side out

abbrev pub is_first : Option ℕ → ℕ → Bool
is_first None n = false
is_first (Some first) n = first == n

-- a system call for this operation is under way
abbrev pub is_tried_at : ContextState → ℕ → Option Target → Bool
is_tried_at s n None = false
is_tried_at s n (Some target) =
    let stream = stream_at s.streams target.stream in
    is_current s.names.streams target.stream && is_out_for target.side stream.out
    && is_first (slice_get (queue_of target.side stream) 0) n

abbrev pub is_tried : ContextState → Op → Bool
is_tried s op = is_tried_at s op.number (target_of op.kind)

-- what a cancellation makes of an operation, during a system call or not
abbrev pub cancelled_phase : Bool → Phase → Phase
cancelled_phase tried (phase.Pending moved cancelled) =
    if tried then phase.Pending moved true else phase.Settled code.Aborted moved
cancelled_phase tried other = other

-- these are cancelled, one after another
abbrev pub ops_cancelled : ContextState → List ℕ → List Op → List Op
ops_cancelled s [] ops = ops
ops_cancelled s (n ∷ numbers) ops =
    ops_cancelled s numbers (phase_changed n (λ op. cancelled_phase (is_tried s op) op.phase) ops)

abbrev pub settles_at : ContextState → Option Op → Bool
settles_at s None = false
settles_at s (Some op) = is_pending op.phase && not (is_tried s op)

-- a cancellation settles the operation with this number
abbrev pub is_settled_by_cancel : ContextState → ℕ → Bool
is_settled_by_cancel s n = settles_at s (op_at s.ops n)

abbrev pub is_among : List ℕ → ℕ → Bool
is_among numbers n = list_any (λ k. k == n) numbers

-- these are cancelled, in this order
abbrev pub cancelled : List ℕ → ContextState → ContextState
cancelled numbers s = record s {
  ops = ops_cancelled s numbers s.ops;
  settled = s.settled ++ filter (is_settled_by_cancel s) numbers;
  waits = filter (λ wait. not (is_among numbers wait.op)) s.waits;
}

-- the waits of a timer, in order of acceptance
abbrev pub waits_of : Name → ContextState → List ℕ
waits_of timer s = map (λ wait. wait.op) (filter (λ wait. same_name wait.timer timer) s.waits)

abbrev pub is_stream_of : Name → Option Target → Bool
is_stream_of stream None = false
is_stream_of stream (Some target) = same_name target.stream stream

-- the pending operations of a stream, of all sides, in order of acceptance
abbrev pub pending_of : Name → ContextState → List ℕ
pending_of stream s =
    map (λ op. op.number)
    (filter (λ op. is_pending op.phase && is_stream_of stream (target_of op.kind)) s.ops)

abbrev pub reached_at : ℕ → Option Op → List ℕ
reached_at types None = []
reached_at types (Some op) =
    if is_pending op.phase && is_reached_by types op.kind op.binding then op.number ∷ [] else []

abbrev pub reached_in : ℕ → List Op → Option ℕ → List ℕ
reached_in types ops None = []
reached_in types ops (Some n) = reached_at types (op_at ops n)

-- the operation of a slot that an emit of these types cancels
abbrev pub reached_by : Name → ℕ → ContextState → List ℕ
reached_by slot types s = reached_in types s.ops (slot_at s.slots slot).operation

-- Completion of an operation (Asio reference, Requirements on asynchronous operations: its handler is
-- queued on its executor once, as if by post; basic_waitable_timer::async_wait).
use Rattle.std.specs.Prelude.{◌≡◌, ℕ, ◌==◌, false, not, List, Option, Some, None, filter, slice_get, if◌then◌else◌}
use Rattle.asio_types.specs.declared.code.Code.{Code}
use Rattle.asio_types.specs.declared.code.Code.TheVariants as code
use Rattle.io_rules.specs.declared.op.Phase.TheVariants as phase
use Rattle.io_rules.specs.declared.operation.Binding.{Binding}
use Rattle.io_rules.specs.declared.operation.Operation.{Operation}
use Rattle.io_rules.specs.declared.operation.Operation.TheVariants as operation
use Rattle.io_rules.specs.declared.operation.Side.{Side}
use Rattle.io_rules.specs.declared.operation.Side.TheVariants as side
use Rattle.io_rules.specs.Cancelling.{is_first, queue_of}
use Rattle.io_rules.specs.Operations.{Target, behind_connect, target_of}
use Rattle.io_rules.specs.Ops.{lane_at, op_at, with_phase}
use Rattle.io_rules.specs.Serving.{first_of, served, with_queue}
use Rattle.io_rules.specs.State.{ContextState, Op, Phase, SlotState, StreamState, slot_at, stream_at, with_slot, with_stream}
use Rattle.io_rules.specs.Strands.{on_lane, ready_on}
use Rattle.io_rules.specs.Timers.{due}

pub record MayComplete (s : ContextState) (op : ℕ) (given : Code) (size : ℕ) (known : Code)
    (moved : ℕ) : Type 0 where
  pub first : slice_get s.settled 0 ≡ Some op
  pub same_code : given ≡ known
  pub same_size : size ≡ moved

pub record MayExpire (s : ContextState) (op : ℕ) (given : Code) (size : ℕ) : Type 0 where
  pub is_due : due s ≡ Some op
  pub ok : given ≡ code.Ok
  pub empty : size ≡ 0

-- what is settled completes in the order in which it was settled, and a wait once it is due
abbrev pub MayCompleteIn : ContextState → ℕ → Code → ℕ → Phase → Type 0
MayCompleteIn s op given size (phase.Pending moved cancelled) = MayExpire s op given size
MayCompleteIn s op given size (phase.Settled known moved) =
    MayComplete s op given size known moved
MayCompleteIn s op given size _ = ⊥

abbrev pub MayCompleteAs : ContextState → ℕ → Code → ℕ → Option Op → Type 0
MayCompleteAs s op given size None = ⊥
MayCompleteAs s op given size (Some known) = MayCompleteIn s op given size known.phase

pub record MayBeDone (s : ContextState) (op : ℕ) (given : Code) (size : ℕ) : Type 0 where
  pub going : s.finishing ≡ false
  pub completes : MayCompleteAs s op given size (op_at s.ops op)

abbrev pub others_than : ℕ → List ℕ → List ℕ
others_than n numbers = filter (λ k. not (k == n)) numbers

abbrev pub slot_left : ℕ → SlotState → SlotState
slot_left op s = if is_first s.operation op then record { operation = None } else s

-- an operation that completes leaves its slot, and its side
abbrev pub slots_left : ℕ → Option Binding → List SlotState → List SlotState
slots_left op None slots = slots
slots_left op (Some binding) slots =
    with_slot binding.slot (slot_left op (slot_at slots binding.slot)) slots

-- the next read searches anew
abbrev pub search_left : Side → ℕ → StreamState → StreamState
search_left side.Read op s =
    if is_first (first_of side.Read s) op then record s { searched = 0 } else s
search_left _ op s = s

abbrev pub side_left : Side → ℕ → StreamState → StreamState
side_left side op s =
    with_queue side (others_than op (queue_of side s)) (search_left side op s)

abbrev pub streams_left : ℕ → Option Target → List StreamState → List StreamState
streams_left op None streams = streams
streams_left op (Some target) streams =
    with_stream target.stream (side_left target.side op (stream_at streams target.stream)) streams

abbrev pub binding_of : Option Op → Option Binding
binding_of None = None
binding_of (Some op) = op.binding

abbrev pub kind_of : Option Op → Operation
kind_of None = operation.Post
kind_of (Some op) = op.kind

abbrev pub completed : ℕ → Code → ℕ → ContextState → ContextState
completed op given size s = record s {
  ops = with_phase op (phase.Ready given size) s.ops;
  settled = others_than op s.settled;
  waits = filter (λ wait. not (wait.op == op)) s.waits;
  strands = on_lane (lane_at s.ops op) (ready_on op) s.strands;
  slots = slots_left op (binding_of (op_at s.ops op)) s.slots;
  streams = streams_left op (target_of (kind_of (op_at s.ops op))) s.streams;
}

-- the next operation of its side is served, and behind a connect the first read and the first write
abbrev pub after_done : ℕ → Code → ℕ → ContextState → ContextState
after_done op given size s =
    let kind = kind_of (op_at s.ops op) in
    served (behind_connect side.Write kind)
    (served (behind_connect side.Read kind)
    (served (target_of kind) (completed op given size s)))

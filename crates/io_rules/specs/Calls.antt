-- Initiating an operation (Asio reference, Requirements on asynchronous operations; io_context). An
-- operation on what is gone completes with bad_descriptor.
use Rattle.std.specs.Prelude.{◌≡◌, ◌<◌, ◌≤◌, ℕ, ◌+◌, ◌&&◌, Bool, true, false, not, List, [], ◌∷◌, ◌++◌, Option, Some, None}
use Rattle.asio_types.specs.declared.code.Code.TheVariants as code
use Rattle.io_rules.specs.declared.name.Lane.{Lane}
use Rattle.io_rules.specs.declared.name.Lane.TheVariants as lane
use Rattle.io_rules.specs.declared.name.Name.{Name}
use Rattle.io_rules.specs.declared.op.Phase.TheVariants as phase
use Rattle.io_rules.specs.declared.operation.Binding.{Binding}
use Rattle.io_rules.specs.declared.operation.Operation.{Operation}
use Rattle.io_rules.specs.declared.operation.Operation.TheVariants as operation
use Rattle.io_rules.specs.declared.request.Gone.{Gone}
use Rattle.io_rules.specs.declared.request.Gone.TheVariants as gone
use Rattle.io_rules.specs.declared.request.Request.{Request}
use Rattle.io_rules.specs.Cancelling.{queue_of}
use Rattle.io_rules.specs.Names.{Names, is_alive}
use Rattle.io_rules.specs.Operations.{Target, is_accept, target_of, timer_of}
use Rattle.io_rules.specs.Ops.{is_at, lane_at}
use Rattle.io_rules.specs.Room.{has_place, numbers_left, place_given_by, promised_left, room_left}
use Rattle.io_rules.specs.Serving.{served, with_queue}
use Rattle.io_rules.specs.State.{ContextState, Op, Phase, SlotState, StreamState, Wait, stream_at, with_slot, with_stream}
use Rattle.io_rules.specs.Strands.{Entry, First, Last, Later, entry_of, lane_given, on_lane, called_on}

abbrev pub is_lane_gone : Names → Lane → Bool
is_lane_gone names lane.Own = false
is_lane_gone names (lane.Strand strand) = not (is_alive names.strands strand)

abbrev pub is_slot_gone : Names → Option Binding → Bool
is_slot_gone names None = false
is_slot_gone names (Some binding) = not (is_alive names.slots binding.slot)

abbrev pub is_timer_gone : Names → Option Name → Bool
is_timer_gone names None = false
is_timer_gone names (Some timer) = not (is_alive names.timers timer)

abbrev pub same_test : Bool → Bool → Bool
same_test true b = b
same_test false b = not b

-- an accept wants a listener, and every other operation of a stream one that is none
abbrev pub is_target_gone : ContextState → Operation → Option Target → Bool
is_target_gone s kind None = false
is_target_gone s kind (Some target) =
    not (is_alive s.names.streams target.stream
    && same_test (is_accept kind) (stream_at s.streams target.stream).listener)

-- whether all of these are there
abbrev pub gone_by : Bool → Bool → Bool → Bool → Gone
gone_by true slot timer target = gone.Strand
gone_by false true timer target = gone.Other
gone_by false false true target = gone.Other
gone_by false false false true = gone.Other
gone_by false false false false = gone.Nothing

abbrev pub gone_of : ContextState → Request → Gone
gone_of s request =
    gone_by (is_lane_gone s.names request.lane) (is_slot_gone s.names request.binding)
    (is_timer_gone s.names (timer_of request.kind))
    (is_target_gone s request.kind (target_of request.kind))

-- from outside, while a place is free, and a number that isn't kept, on what isn't gone
pub record MayCallOutside (s : ContextState) (given : Gone) : Type 0 where
  pub room : 0 < s.room
  pub numbers : 0 < numbers_left s
  pub there : given ≡ gone.Nothing

-- or by a handler that executes, while it has a place
abbrev pub MayCallBy : ContextState → Gone → Option ℕ → Type 0
MayCallBy s given None = MayCallOutside s given
MayCallBy s given (Some by) = is_at has_place s.ops by ≡ true

-- a stream never holds more than its limit
abbrev pub IsWithin : ℕ → Operation → Type 0
IsWithin held (operation.ReadUntil stream max) = max ≤ held
IsWithin held _ = Unit {0}

pub record MayCall (s : ContextState) (op : ℕ) (by : Option ℕ) (request : Request) (given : Gone) :
    Type 0 where
  pub going : s.finishing ≡ false
  pub number : op ≡ s.next
  pub names : given ≡ gone_of s request
  pub allowed : MayCallBy s given by
  pub within : IsWithin s.limits.held request.kind

-- where the handler that calls executes
abbrev pub caller_lane : List Op → Option ℕ → Lane
caller_lane ops None = lane.Own
caller_lane ops (Some by) = lane_at ops by

-- a posting is ready at once; what names something gone is settled
abbrev pub first_phase : Entry → Gone → Phase
first_phase First given = phase.Ready code.Ok 0
first_phase Last given = phase.Ready code.Ok 0
first_phase Later gone.Nothing = phase.Pending 0 false
first_phase Later gone.Strand = phase.Settled code.Bad 0
first_phase Later gone.Other = phase.Settled code.Bad 0

abbrev pub new_op : Entry → ℕ → Request → Gone → Op
new_op entry op request given = record {
  number = op;
  lane = lane_given request given;
  binding = request.binding;
  kind = request.kind;
  marks = request.marks;
  phase = first_phase entry given;
}

-- what names something gone
abbrev pub settled_called : ℕ → Gone → List ℕ
settled_called op gone.Nothing = []
settled_called op gone.Strand = op ∷ []
settled_called op gone.Other = op ∷ []

abbrev pub waits_called : ℕ → Gone → Option Name → List Wait
waits_called op gone.Nothing (Some timer) = record { op = op; timer = timer } ∷ []
waits_called op given timer = []

-- the latest operation with a slot is the one that an emit reaches
abbrev pub slots_called : Entry → ℕ → Gone → Option Binding → List SlotState → List SlotState
slots_called Later op gone.Nothing (Some binding) slots =
    with_slot binding.slot (record { operation = Some op }) slots
slots_called entry op given binding slots = slots

abbrev pub streams_called : ℕ → Gone → Option Target → List StreamState → List StreamState
streams_called op gone.Nothing (Some target) streams =
    let stream = stream_at streams target.stream in
    with_stream target.stream
    (with_queue target.side (queue_of target.side stream ++ op ∷ []) stream) streams
streams_called op given target streams = streams

abbrev pub accepted : Entry → ℕ → Option ℕ → Request → Gone → ContextState → ContextState
accepted entry op by request given s = record s {
  next = s.next + 1;
  promised = promised_left by s.promised;
  room = room_left by s.room;
  ops = place_given_by by s.ops ++ new_op entry op request given ∷ [];
  settled = s.settled ++ settled_called op given;
  waits = s.waits ++ waits_called op given (timer_of request.kind);
  strands = on_lane (lane_given request given) (called_on entry op) s.strands;
  slots = slots_called entry op given request.binding s.slots;
  streams = streams_called op given (target_of request.kind) s.streams;
}

abbrev pub target_if : Gone → Option Target → Option Target
target_if gone.Nothing target = target
target_if gone.Strand target = None
target_if gone.Other target = None

-- the first operation of a side is served at once
abbrev pub after_call : ℕ → Option ℕ → Request → Gone → ContextState → ContextState
after_call op by request given s =
    served (target_if given (target_of request.kind))
    (accepted (entry_of (caller_lane s.ops by) request given) op by request given s)

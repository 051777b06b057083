-- The state of an io_context (Asio reference, io_context; Overview, "The Proactor Design Pattern"):
-- what its history so far leaves to be done.
use Rattle.std.specs.Prelude.{ℕ, Bool, false, List, [], Option, None, replicate}
use Rattle.std.specs.List.{slice_index_or, slice_set}
use Rattle.io_rules.specs.declared.limits.Limits.{Limits}
use Rattle.io_rules.specs.declared.name.Name.{Name}
use Rattle.io_rules.specs.declared.operation.Side.{Side}
use Rattle.io_rules.specs.Names.{Names, first_names}
-- an operation that is accepted and not over, and how far it has come
pub use Rattle.io_rules.specs.declared.op.Op.{Op}
pub use Rattle.io_rules.specs.declared.op.Phase.{Phase}
-- a wait that is pending
pub use Rattle.io_rules.specs.declared.op.Wait.{Wait}

-- a strand: one handler at a time, in order
pub record StrandState : Type 0 where
  -- what is ready, next first
  pub queue : List ℕ
  -- how many of these were put first by the handler that executed last
  pub front : ℕ
  -- what executes
  pub runs : Option ℕ
  -- how many operations have handlers that execute on it
  pub tied : ℕ

pub record TimerState : Type 0 where
  pub expiry : ℕ

pub record SlotState : Type 0 where
  -- what an emit cancels
  pub operation : Option ℕ

-- a stream, or a listener
pub record StreamState : Type 0 where
  pub listener : Bool
  -- whether it is connected
  pub linked : Bool
  -- its operations that haven't completed, in order of acceptance
  pub reads : List ℕ
  pub writes : List ℕ
  pub connects : List ℕ
  -- how many bytes came that no read got yet
  pub held : ℕ
  -- in how many of these the delimiter of the first read doesn't end
  pub searched : ℕ
  -- for which side its socket is in a system call
  pub out : Option Side
  -- the name that is kept for what an accept makes, while it is
  pub reserved : Option Name

pub record ContextState : Type 0 where
  pub limits : Limits
  -- the number of the next operation
  pub next : ℕ
  -- how many numbers are kept for handlers that execute
  pub promised : ℕ
  -- how many places for operations are free
  pub room : ℕ
  -- nanoseconds since the context was made
  pub now : ℕ
  -- io_context::stopped
  pub stopped : Bool
  -- whether the context is being destroyed
  pub finishing : Bool
  -- executor_work_guards
  pub holds : ℕ
  -- what is accepted and not over, by rising number
  pub ops : List Op
  -- what is settled and hasn't completed, oldest first
  pub settled : List ℕ
  -- waits that are pending, in order of acceptance
  pub waits : List Wait
  -- which names there are, and what they name, by place
  pub names : Names
  pub strands : List StrandState
  pub timers : List TimerState
  pub slots : List SlotState
  pub streams : List StreamState

abbrev pub new_strand : StrandState
new_strand = record { queue = []; front = 0; runs = None; tied = 0 }

-- its first expiry has passed
abbrev pub new_timer : TimerState
new_timer = record { expiry = 0 }

abbrev pub new_slot : SlotState
new_slot = record { operation = None }

abbrev pub new_stream : StreamState
new_stream = record {
  listener = false;
  linked = false;
  reads = [];
  writes = [];
  connects = [];
  held = 0;
  searched = 0;
  out = None;
  reserved = None;
}

-- the state before the first event
abbrev pub first_state : Limits → ContextState
first_state limits = record {
  limits = limits;
  next = 0;
  promised = 0;
  room = limits.operations;
  now = 0;
  stopped = false;
  finishing = false;
  holds = 0;
  ops = [];
  settled = [];
  waits = [];
  names = first_names limits;
  strands = replicate limits.strands new_strand;
  timers = replicate limits.timers new_timer;
  slots = replicate limits.slots new_slot;
  streams = replicate limits.streams new_stream;
}

abbrev pub strand_at : List StrandState → Name → StrandState
strand_at strands name = slice_index_or strands name.place new_strand

abbrev pub with_strand : Name → StrandState → List StrandState → List StrandState
with_strand name new strands = slice_set strands name.place new

abbrev pub timer_at : List TimerState → Name → TimerState
timer_at timers name = slice_index_or timers name.place new_timer

abbrev pub with_timer : Name → TimerState → List TimerState → List TimerState
with_timer name new timers = slice_set timers name.place new

abbrev pub slot_at : List SlotState → Name → SlotState
slot_at slots name = slice_index_or slots name.place new_slot

abbrev pub with_slot : Name → SlotState → List SlotState → List SlotState
with_slot name new slots = slice_set slots name.place new

abbrev pub stream_at : List StreamState → Name → StreamState
stream_at streams name = slice_index_or streams name.place new_stream

abbrev pub with_stream : Name → StreamState → List StreamState → List StreamState
with_stream name new streams = slice_set streams name.place new

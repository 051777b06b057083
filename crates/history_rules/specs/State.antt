-- The state of a history, in two halves: the context's, which is what has become of each act, and
-- the reactor's, which is what the outside has still to complete (Asio reference, io_context;
-- Overview, "The Proactor Design Pattern").
use Rattle.std.specs.Prelude.{ℕ, Bool, true, false, List, [], Option, None, length, map, replicate, if◌then◌else◌}
use Rattle.std.specs.List.{slice_index_or, slice_set}
use Rattle.asio_types.specs.Faults.{one_more}
use Rattle.session_script.specs.Script.{ScriptModel}
use Rattle.stream_rules.specs.declared.queue.Completion.{Completion}
use Rattle.stream_rules.specs.Queue.{Pending}
use Rattle.stream_rules.specs.Serving.{Reading, Writing}
use Rattle.stream_rules.specs.Stream.{Stream, new_stream}
use Rattle.stream_rules.specs.World.{first_streams}
use Rattle.history_rules.specs.declared.phase.ActPhase.{ActPhase}
use Rattle.history_rules.specs.declared.phase.ActPhase.TheVariants as phase
use Rattle.history_rules.specs.declared.phase.ActState.{ActState}
use Rattle.history_rules.specs.declared.phase.Allowance.{Allowance}
use Rattle.history_rules.specs.declared.phase.Allowance.TheVariants as allowance
use Rattle.history_rules.specs.declared.phase.CallPhase.{CallPhase}
use Rattle.history_rules.specs.declared.phase.CallPhase.TheVariants as call
use Rattle.history_rules.specs.declared.phase.Progress.{Progress}
-- a wait of a timer that hasn't completed
pub use Rattle.history_rules.specs.declared.wait.Wait.{Wait}

-- how many more executions each lane may begin; a private lane has one in its life, so for these
-- one answer serves
pub record Allowances : Type 0 where
  pub strands : List Allowance
  pub own : Allowance
  pub reactor : Allowance

pub record ContextState : Type 0 where
  -- each act of the script, by its number
  pub acts : List ActState
  -- the calls of `open`
  pub opening : Progress
  -- io_context::stopped
  pub stopped : Bool
  pub allowances : Allowances
  -- how many rounds are closed
  pub closings : ℕ
  -- whether the restart of this round has come
  pub restarted : Bool
  -- whether handlers are being destroyed
  pub dropping : Bool
  -- how many events there were, without stops from outside
  pub events : ℕ
  -- where the latest turn of the reactor began, unless a round was closed since
  pub turn : Option ℕ

-- the operations of a stream that haven't completed, in order of acceptance
pub record StreamQueues : Type 0 where
  pub closed : Bool
  pub reads : List (Pending Reading)
  pub writes : List (Pending Writing)

pub record ReactorHalf : Type 0 where
  -- for each act whether it was taken
  pub taken : List Bool
  -- how many were taken
  pub accepted : ℕ
  -- scripted time
  pub now : ℕ
  -- for each timer its expiry
  pub expiries : List ℕ
  -- the waits, in order of acceptance
  pub waits : List Wait
  -- for each slot the operation that is connected to it
  pub slots : List (Option ℕ)
  -- for each stream what arrived, its room, its marks and what was sent; untouched where bytes are
  -- untold
  pub streams : List Stream
  -- for each stream its operations
  pub queues : List StreamQueues
  -- for each guard whether it holds the context
  pub guards : List Bool
  -- whether the last time point has passed
  pub last : Bool
  -- whether the reactor has failed
  pub failed : Bool
  -- what has completed and wasn't told yet, in order
  pub due : List Completion
  -- whether all of this turn is still to be told
  pub whole_turn : Bool
  -- where bytes are untold: which side of a stream this turn has come to (see Untold)
  pub reached : ℕ

pub record State : Type 0 where
  pub context : ContextState
  pub reactor : ReactorHalf

-- an act to which nothing has happened
abbrev pub fresh : ActState
fresh = record { call = call.Uncalled; phase = phase.Absent }

abbrev pub no_progress : Progress
no_progress = record { made = 0; back = 0 }

-- the same for every lane
abbrev pub all_lanes : Allowance → ℕ → Allowances
all_lanes allowed strands = record {
  strands = replicate strands allowed;
  own = allowed;
  reactor = allowed;
}

-- every lane comes to the same
abbrev pub each_lane : Allowance → Allowances → Allowances
each_lane allowed allowances =
    record { strands = map (λ _. allowed) allowances.strands; own = allowed; reactor = allowed }

abbrev pub first_context : ScriptModel → ContextState
first_context script = record {
  acts = replicate (length script.acts) fresh;
  opening = no_progress;
  stopped = false;
  allowances = all_lanes allowance.Free script.strands;
  closings = 0;
  restarted = false;
  dropping = false;
  events = 0;
  turn = None;
}

abbrev pub no_queues : StreamQueues
no_queues = record { closed = false; reads = []; writes = [] }

-- the world's lines of time 0 are performed, where bytes are told
abbrev pub first_reactor : ScriptModel → Bool → ReactorHalf
first_reactor script told = record {
  taken = replicate (length script.acts) false;
  accepted = 0;
  now = 0;
  expiries = replicate script.timers 0;
  waits = [];
  slots = replicate script.slots None;
  streams = if told then first_streams script.world else replicate script.world.streams new_stream;
  queues = replicate script.world.streams no_queues;
  guards = replicate script.guards true;
  last = false;
  failed = false;
  due = [];
  whole_turn = false;
  reached = 0;
}

-- the state before the first event
abbrev pub first_state : ScriptModel → Bool → State
first_state script told = record {
  context = first_context script;
  reactor = first_reactor script told;
}

abbrev pub act_at : ContextState → ℕ → ActState
act_at s n = slice_index_or s.acts n fresh

abbrev pub call_at : ContextState → ℕ → CallPhase
call_at s n = (act_at s n).call

abbrev pub phase_at : ContextState → ℕ → ActPhase
phase_at s n = (act_at s n).phase

abbrev pub with_act : ContextState → ℕ → ActState → ContextState
with_act s n new = record s { acts = slice_set s.acts n new }

-- the call of an act comes to this
abbrev pub with_call : ContextState → ℕ → CallPhase → ContextState
with_call s n new = with_act s n (record (act_at s n) { call = new })

-- an act comes to this beyond its call
abbrev pub with_phase : ContextState → ℕ → ActPhase → ContextState
with_phase s n new = with_act s n (record (act_at s n) { phase = new })

-- one more event; counts stand still at the end of 64 bits, which no session reaches
abbrev pub counted : ContextState → ContextState
counted s = record s { events = one_more s.events }

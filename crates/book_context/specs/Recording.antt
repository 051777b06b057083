-- What a context has recorded while its lock is free, and what each of its steps makes of that. A
-- running context keeps this and no state of a history.
use Rattle.std.specs.Prelude.{◌≡◌, ℕ, ◌+◌, ◌-◌, ◌≤◌, Bool, true, false, ◌||◌, List, [], ◌∷◌, ◌++◌, None, length, replicate, slice_set, ⊤}
use Rattle.asio_types.specs.declared.code.Code.{Code}
use Rattle.asio_types.specs.declared.event.Event.{Event}
use Rattle.asio_types.specs.declared.event.Event.TheVariants as event
use Rattle.op_handlers.specs.Marks.{Marks}
use Rattle.session_script.specs.Script.{ScriptModel, opening_of}
use Rattle.strand_core.specs.declared.posted.Posted.{Posted}
use Rattle.strand_core.specs.declared.posted.Posted.TheVariants as posted
use Rattle.strand_core.specs.Execution.{AnyMark, AreCalls, IsWholeExecution, events_of}
use Rattle.strand_core.specs.Hands.{HasRunMark, Held, begins_among, held_at, left_at}
use Rattle.execution_laws.specs.Called.{are_stopping}
use Rattle.execution_laws.specs.Order.{postings_of, requests_of}

pub record Recording : Type 0 where
  pub script : ScriptModel
  -- the history so far, and for how many more events there is room
  pub events : List Event
  pub spare : ℕ
  -- the ready operations and the untaken requests, both oldest first
  pub ready : List (ℕ × Code × ℕ)
  pub requests : List ℕ
  -- for each act whether it was called
  pub called : List Bool
  -- io_context::stopped
  pub stopped : Bool
  -- whether the restart of this round has come, and how many rounds are closed
  pub restarted : Bool
  pub closings : ℕ

-- before the first event
abbrev pub new_recording : ScriptModel → ℕ → Recording
new_recording script room = record {
  script = script;
  events = [];
  spare = room;
  ready = [];
  requests = [];
  called = replicate (length script.acts) false;
  stopped = false;
  restarted = false;
  closings = 0;
}

-- one more event
abbrev pub with_event : Event → Recording → Recording
with_event event r = record r { events = r.events ++ event ∷ []; spare = r.spare - 1 }

-- these calls were made
abbrev pub marked : List Posted → List Bool → List Bool
marked [] called = called
marked (posted.Begin op code size begun ∷ calls) called = marked calls called
marked (posted.Call act ∷ calls) called = marked calls (slice_set called act true)
marked (posted.Back act ∷ calls) called = marked calls called
marked (posted.End op ran ∷ calls) called = marked calls called

-- the calls of an execution, or of `open`, were made: what they called is behind the others, and a
-- stop among them stops the context
abbrev pub with_calls : List Posted → Recording → Recording
with_calls calls r = record r {
  events = r.events ++ events_of r.script calls;
  spare = r.spare - length (events_of r.script calls);
  ready = r.ready ++ postings_of r.script calls;
  requests = r.requests ++ requests_of r.script calls;
  called = marked calls r.called;
  stopped = r.stopped || are_stopping r.script calls;
}

-- an operation completed: it is ready behind the others
abbrev pub with_done : ℕ → Code → ℕ → Recording → Recording
with_done op code size r =
    record (with_event (event.Done op code size) r) { ready = r.ready ++ (op, code, size) ∷ [] }

-- the reactor has failed, which stops the context
abbrev pub with_fault : Recording → Recording
with_fault r = record (with_event event.Fault r) { stopped = true }

-- somebody outside stopped the context
abbrev pub with_outside_stop : Recording → Recording
with_outside_stop r = record (with_event (event.Stop None) r) { stopped = true }

-- the round is closed; only after polling it goes on
abbrev pub with_closing : Event → Bool → Recording → Recording
with_closing closing stopped r =
    record (with_event closing r)
    { stopped = stopped; restarted = false; closings = r.closings + 1 }

-- io_context::restart
abbrev pub with_restart : Recording → Recording
with_restart r = record (with_event event.Restart r) { stopped = false; restarted = true }

-- acts are called one after another, none of which executes inside its call
abbrev pub outside_calls : List ℕ → List Posted
outside_calls [] = []
outside_calls (act ∷ acts) = posted.Call act ∷ posted.Back act ∷ outside_calls acts

-- there is room for the events of these calls, and for what they make ready and ask of the reactor
pub record HasRoomForCalls (r : Recording) (calls : List Posted) : Type 0 where
  pub events : length (events_of r.script calls) ≤ r.spare
  pub ready : length r.ready + length (postings_of r.script calls) ≤ length r.script.acts
  pub requests : length r.requests + length (requests_of r.script calls) ≤ length r.script.acts

-- the acts of `open` were called
pub record HasCalledOpening (old new : Recording) : Type 0 where
  pub calls : List Posted
  pub are : AreCalls old.script AnyMark (opening_of old.script) calls
  pub is : new ≡ with_calls calls old

-- a begin has this position
abbrev pub IsPlaced : ℕ → Posted → Type 0
IsPlaced position (posted.Begin op code size begun) = begun ≡ position
IsPlaced position _ = ⊤

-- the events of these calls come from a position on, and each begin has its own
abbrev pub ArePlaced : ScriptModel → ℕ → List Posted → Type 0
ArePlaced script position [] = ⊤
ArePlaced script position (call ∷ calls) =
    IsPlaced position call
    × ArePlaced script (position + length (events_of script (call ∷ []))) calls

-- one whole execution was made with the handlers that were held, and those that began in it are
-- spent; a handler that begins is told the count of events before its begin
pub record HasRecorded {H : Type 0} (marks : H → Marks) (op : ℕ) (code : Code) (size : ℕ)
    (old new : Recording) (held left : Held H) : Type 0 where
  pub calls : List Posted
  pub whole : IsWholeExecution old.script (HasRunMark marks held) op code size calls
  pub placed : ArePlaced old.script (length old.events) calls
  pub script : left.script ≡ held.script
  pub spent : (n : ℕ) → held_at left n ≡ left_at (begins_among n calls) (held_at held n)
  pub is : new ≡ with_calls calls old

-- What is said of the run of a script.
use Rattle.std.specs.Prelude.{◌≡◌, ℕ, ◌↔◌, true, false, List, [], ◌∷◌, None, map, Contains, MatchOption, ⊤}
use Rattle.asio_types.specs.Faults.{Rose}
use Rattle.asio_types.specs.declared.event.Event.{Event}
use Rattle.asio_types.specs.declared.event.Event.TheVariants as event
use Rattle.session_script.specs.Script.{ScriptModel}
use Rattle.execution_laws.specs.LetGo.{is_initiated}
use Rattle.history_book.specs.Trace.{AreEvents}
use Rattle.history_laws.specs.Promise.{KeepsPromise}
use Rattle.history_rules.specs.Legal.{IsLegal, state_of}
use Rattle.execution_laws.specs.Marks.{HasToldMarks}
use Rattle.history_rules.specs.State.{State}
use Rattle.op_handlers.specs.Marks.{Marks, own_marks}
use Rattle.op_handlers.specs.Rack.{AllTaken, let_go_of}
use Rattle.op_handlers.specs.declared.rack.Rack.{Rack}
use Rattle.session_run.specs.Given.{SeenReactor, tells_bytes}
use Rattle.session_run.specs.RackMarks.{drop_mark, drop_marks_but, rack_run_mark}

-- the events show a failure of the reactor
abbrev pub ShowsFault : List Event → Type 0
ShowsFault events = Contains events event.Fault

abbrev pub ShowsNoFault : List Event → Type 0
ShowsNoFault events = ShowsFault events → ⊥

-- the scripted time of a state
abbrev pub now_of : State → ℕ
now_of s = s.reactor.now

-- the bytes that were sent on each stream
abbrev pub sent_by : State → List (List ℕ)
sent_by s = map (λ stream. stream.sent) s.reactor.streams

-- a run of the script with these events
pub record IsRunOf {H : Type 0} (marks : H → Marks) (script : ScriptModel) (reactor : SeenReactor)
    (old new : Rack H) (events : List Event) : Type 0 where
  -- each event may come where it comes, and none is missing
  pub legal : IsLegal script (tells_bytes reactor) events
  -- so handlers run once and behind their completion, those of a strand one at a time and in order
  pub promise : KeepsPromise script (tells_bytes reactor) events
  -- their numbers fit their types, so that a trace of them fixes them
  pub numbers : AreEvents events
  -- the events show the marks that the handlers had, each called as its begin says
  pub marked : HasToldMarks (own_marks (rack_run_mark marks old)) (drop_mark marks old) events
  -- every handler was spent
  pub spent : AllTaken old new
  -- every handler whose operation was never initiated was destroyed without a call
  pub let_go : let_go_of new
      ≡ drop_marks_but marks (is_initiated script (state_of script (tells_bytes reactor) events)) old
  -- nobody stopped the context from outside
  pub unstopped : Contains events (event.Stop None) → ⊥
  -- a fault stands exactly where the reactor failed
  pub faults : ShowsFault events → Rose reactor.sent.faults_before reactor.sent.faults_after
  pub stood : ShowsNoFault events → reactor.sent.faults_after ≡ reactor.sent.faults_before
  -- a fault stands alone exactly where the reactor couldn't be set up
  pub set_up : (events ≡ event.Fault ∷ []) ↔ (reactor.up ≡ false)
  -- else the reactor's time is that of the last state
  pub now : reactor.up ≡ true → reactor.now ≡ now_of (state_of script (tells_bytes reactor) events)
  -- without a fault the bytes that were sent are those of the last state, where the reactor tells
  -- them
  pub sent : ShowsNoFault events →
      MatchOption reactor.sent.told_after ⊤
      (λ sent. sent ≡ sent_by (state_of script (tells_bytes reactor) events))

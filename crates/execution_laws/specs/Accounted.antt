-- That as many operations are pending as the reactor has to complete.
use Rattle.std.specs.Prelude.{◌≡◌, ℕ, Bool, true, false, List, length}
use Rattle.asio_types.specs.declared.code.Code.{Code}
use Rattle.asio_types.specs.declared.event.Event.TheVariants as event
use Rattle.session_script.specs.Script.{ScriptModel, opening_of}
use Rattle.session_script.specs.Lanes.{is_inline}
use Rattle.session_script.specs.WellFormed.{IsWellFormed}
use Rattle.history_rules.specs.declared.phase.ActPhase.TheVariants as phase
use Rattle.history_rules.specs.Calls.{accepted}
use Rattle.history_rules.specs.Executions.{MayBeginOutside}
use Rattle.history_rules.specs.Legal.{after_event, state_from, state_of}
use Rattle.history_rules.specs.Order.{is_request, is_untaken, was_taken}
use Rattle.history_rules.specs.Requests.{MayTell}
use Rattle.history_rules.specs.State.{State, phase_at}
use Rattle.history_rules.specs.Time.{pending_count}
use Rattle.strand_core.specs.declared.posted.Posted.{Posted}
use Rattle.strand_core.specs.Execution.{AnyMark, AreCalls, IsWholeExecution, events_of}
use Rattle.execution_laws.specs.Order.{IsOrderly}
use Rattle.execution_laws.specs.Rest.{IsAtRest}
use Rattle.execution_laws.specs.Work.{pending_acts}

-- the script's streams have their queues and its acts their marks, what asks the reactor is as its
-- call accepted it, and as many operations are pending as the reactor has to complete
pub record IsAccounted (script : ScriptModel) (s : State) : Type 0 where
  pub streams : length s.reactor.queues ≡ script.world.streams
  pub marks : length s.reactor.taken ≡ length script.acts
  pub asked : (n : ℕ) → is_request (phase_at s.context n) ≡ true →
      phase_at s.context n ≡ accepted script n
  pub pending : pending_acts s ≡ pending_count s.reactor

abbrev pub ExecutionsStayAccounted : Type 0
ExecutionsStayAccounted =
    (script : ScriptModel) (told : Bool) (s : State) (op : ℕ) (code : Code) (size : ℕ)
    (calls : List Posted) →
    IsWellFormed script → IsAtRest script s.context → IsOrderly script s → IsAccounted script s →
    is_inline script op ≡ false →
    MayBeginOutside script s.context op code size →
    IsWholeExecution script AnyMark op code size calls →
    IsAccounted script (state_from script told s (events_of script calls))

abbrev pub OpeningsAreAccounted : Type 0
OpeningsAreAccounted =
    (script : ScriptModel) (told : Bool) (calls : List Posted) →
    IsWellFormed script → AreCalls script AnyMark (opening_of script) calls →
    IsAccounted script (state_of script told (events_of script calls))

abbrev pub TakesStayAccounted : Type 0
TakesStayAccounted =
    (script : ScriptModel) (told : Bool) (s : State) (a : ℕ) →
    IsWellFormed script → IsAtRest script s.context → IsAccounted script s → is_untaken s a ≡ true →
    IsAccounted script (after_event script told s (event.Take a))

abbrev pub CompletionsStayAccounted : Type 0
CompletionsStayAccounted =
    (script : ScriptModel) (told : Bool) (s : State) (op : ℕ) (code : Code) (size : ℕ) →
    IsAccounted script s → phase_at s.context op ≡ phase.Requested → was_taken s.reactor op ≡ true →
    MayTell script told s.reactor op code size →
    IsAccounted script (after_event script told s (event.Done op code size))

abbrev pub TicksStayAccounted : Type 0
TicksStayAccounted =
    (script : ScriptModel) (told : Bool) (s : State) (now : ℕ) → IsAccounted script s →
    IsAccounted script (after_event script told s (event.Tick now))

abbrev pub LastStaysAccounted : Type 0
LastStaysAccounted =
    (script : ScriptModel) (told : Bool) (s : State) → IsAccounted script s →
    IsAccounted script (after_event script told s event.Last)

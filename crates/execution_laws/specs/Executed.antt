-- One whole execution from rest to rest.
use Rattle.std.specs.Prelude.{◌≡◌, ◌≢◌, ◌≤◌, ℕ, ◌+◌, Bool, true, false, ◌||◌, List, length}
use Rattle.asio_types.specs.Faults.{most_faults}
use Rattle.asio_types.specs.declared.code.Code.{Code}
use Rattle.session_script.specs.Script.{ScriptModel}
use Rattle.session_script.specs.Lanes.{is_inline, lane_of}
use Rattle.session_script.specs.WellFormed.{IsWellFormed}
use Rattle.history_rules.specs.declared.phase.ActPhase.TheVariants as phase
use Rattle.history_rules.specs.Executions.{MayBeginOutside}
use Rattle.history_rules.specs.Legal.{IsLegalFrom, state_from}
use Rattle.history_rules.specs.State.{ContextState, State, act_at}
use Rattle.history_rules.specs.Stopping.{spend}
use Rattle.strand_core.specs.declared.posted.Posted.{Posted}
use Rattle.strand_core.specs.Execution.{AnyMark, IsWholeExecution, events_of}
use Rattle.execution_laws.specs.Called.{IsBackSince, are_stopping, is_called}
use Rattle.execution_laws.specs.Rest.{IsAtRest}

-- what the calls of an operation's whole execution leave of a context
pub record IsExecuted (script : ScriptModel) (op : ℕ) (calls : List Posted) (s t : ContextState)
    : Type 0 where
  pub rest : IsAtRest script t
  pub ended : act_at t op ≡ record (act_at s op) { phase = phase.Ended }
  pub called : (n : ℕ) → is_called n calls ≡ true → IsBackSince script s.events n (act_at t n)
  pub others : (n : ℕ) → is_called n calls ≡ false → n ≢ op → act_at t n ≡ act_at s n
  pub opening : t.opening ≡ s.opening
  pub stopped : t.stopped ≡ (s.stopped || are_stopping script calls)
  pub allowed : are_stopping script calls ≡ false →
      t.allowances ≡ (spend (lane_of script op) s).allowances
  pub lanes : length t.allowances.strands ≡ length s.allowances.strands
  pub closings : t.closings ≡ s.closings
  pub restarted : t.restarted ≡ s.restarted
  pub dropping : t.dropping ≡ s.dropping
  pub turn : t.turn ≡ s.turn
  pub events : s.events + length (events_of script calls) ≤ most_faults →
      t.events ≡ s.events + length (events_of script calls)

-- the events of these calls are legal from a state on, and leave the reactor as it is
pub record IsLegalExecution (script : ScriptModel) (told : Bool) (s : State) (op : ℕ)
    (calls : List Posted) : Type 0 where
  pub legal : IsLegalFrom script told s (events_of script calls)
  pub after : ContextState
  pub is : state_from script told s (events_of script calls)
      ≡ record { context = after; reactor = s.reactor }
  pub executed : IsExecuted script op calls s.context after

-- an operation that may begin outside a call executes legally, whatever the marks of its ends
abbrev pub ExecutionsAreLegal : Type 0
ExecutionsAreLegal =
    (script : ScriptModel) (told : Bool) (s : State) (op : ℕ) (code : Code) (size : ℕ)
    (calls : List Posted) →
    IsWellFormed script → IsAtRest script s.context → is_inline script op ≡ false →
    MayBeginOutside script s.context op code size →
    IsWholeExecution script AnyMark op code size calls →
    IsLegalExecution script told s op calls

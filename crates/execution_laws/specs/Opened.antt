-- The calls of `open`, from the first state to rest.
use Rattle.std.specs.Prelude.{◌≡◌, ◌≤◌, ℕ, Bool, true, false, List, None, length}
use Rattle.asio_types.specs.Faults.{most_faults}
use Rattle.session_script.specs.Script.{ScriptModel, opening_of}
use Rattle.session_script.specs.WellFormed.{IsWellFormed}
use Rattle.history_rules.specs.declared.phase.Allowance.TheVariants as allowance
use Rattle.history_rules.specs.Legal.{IsLegalSoFar, state_of}
use Rattle.history_rules.specs.State.{ContextState, act_at, all_lanes, first_reactor, fresh}
use Rattle.strand_core.specs.declared.posted.Posted.{Posted}
use Rattle.strand_core.specs.Execution.{AnyMark, AreCalls, events_of}
use Rattle.execution_laws.specs.Called.{IsBackSince, are_stopping, is_called}
use Rattle.execution_laws.specs.Rest.{IsAtRest}

-- what the calls of `open` make of a context
pub record IsOpened (script : ScriptModel) (calls : List Posted) (t : ContextState) : Type 0 where
  pub rest : IsAtRest script t
  pub opening : t.opening
      ≡ record { made = length (opening_of script); back = length (opening_of script) }
  pub called : (n : ℕ) → is_called n calls ≡ true → IsBackSince script 0 n (act_at t n)
  pub others : (n : ℕ) → is_called n calls ≡ false → act_at t n ≡ fresh
  pub stopped : t.stopped ≡ are_stopping script calls
  pub allowed : are_stopping script calls ≡ false →
      t.allowances ≡ all_lanes allowance.Free script.strands
  pub lanes : length t.allowances.strands ≡ script.strands
  pub closings : t.closings ≡ 0
  pub restarted : t.restarted ≡ false
  pub dropping : t.dropping ≡ false
  pub turn : t.turn ≡ None
  pub events : length (events_of script calls) ≤ most_faults →
      t.events ≡ length (events_of script calls)

-- the events of these calls are legal from the first state on, and leave the reactor as it is
pub record IsLegalOpening (script : ScriptModel) (told : Bool) (calls : List Posted) : Type 0 where
  pub legal : IsLegalSoFar script told (events_of script calls)
  pub after : ContextState
  pub is : state_of script told (events_of script calls)
      ≡ record { context = after; reactor = first_reactor script told }
  pub opened : IsOpened script calls after

-- the acts of `open` are called legally
abbrev pub OpeningsAreLegal : Type 0
OpeningsAreLegal =
    (script : ScriptModel) (told : Bool) (calls : List Posted) →
    IsWellFormed script → AreCalls script AnyMark (opening_of script) calls →
    IsLegalOpening script told calls

-- Histories and executions in parts.
use Rattle.std.specs.Prelude.{◌≡◌, Bool, List, ◌++◌}
use Rattle.asio_types.specs.declared.event.Event.{Event}
use Rattle.session_script.specs.Script.{ScriptModel}
use Rattle.history_rules.specs.Legal.{IsLegalFrom, IsLegalSoFar, state_from, state_of}
use Rattle.history_rules.specs.State.{State}
use Rattle.strand_core.specs.declared.posted.Posted.{Posted}
use Rattle.strand_core.specs.Execution.{events_of}

-- what is legal as a whole is legal call by call
pub record IsLegalInParts (script : ScriptModel) (told : Bool) (s : State)
    (first rest : List Posted) : Type 0 where
  pub first_legal : IsLegalFrom script told s (events_of script first)
  pub rest_legal : IsLegalFrom script told (state_from script told s (events_of script first))
      (events_of script rest)

abbrev pub CallsAreLegalInParts : Type 0
CallsAreLegalInParts =
    (script : ScriptModel) (told : Bool) (s : State) (first rest : List Posted) →
    IsLegalFrom script told s (events_of script (first ++ rest)) →
    IsLegalInParts script told s first rest

-- a legal history goes on by what is legal in its state
abbrev pub HistoriesGoOn : Type 0
HistoriesGoOn =
    (script : ScriptModel) (told : Bool) (history events : List Event) →
    IsLegalSoFar script told history →
    IsLegalFrom script told (state_of script told history) events →
    IsLegalSoFar script told (history ++ events)

-- and so does its state
abbrev pub StatesGoOn : Type 0
StatesGoOn =
    (script : ScriptModel) (told : Bool) (history events : List Event) →
    state_of script told (history ++ events)
    ≡ state_from script told (state_of script told history) events

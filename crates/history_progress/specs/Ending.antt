-- Each legal history comes to an end by events from within, and each script that releases its guards
-- has one (Asio reference, io_context::run and ::poll; executor_work_guard::reset).
use Rattle.std.specs.Prelude.{◌≡◌, ◌⊎◌, ℕ, ◌<◌, Bool, true, All, List, ◌++◌, Some, Contains}
use Rattle.asio_types.specs.declared.event.Event.{Event}
use Rattle.session_script.specs.declared.act.Act.TheVariants as act
use Rattle.session_script.specs.Script.{ScriptModel, act_of, opening_of}
use Rattle.session_script.specs.WellFormed.{IsWellFormed}
use Rattle.history_rules.specs.Legal.{IsLegal, IsLegalSoFar}
use Rattle.history_progress.specs.Next.{WaitsForGuard, is_from_within}

-- behind these events come some from within, after which the history is whole or waits for a guard
pub record ComesToAnEnd (script : ScriptModel) (told : Bool) (events : List Event) : Type 0 where
  pub more : List Event
  pub within : All (λ shown. is_from_within shown ≡ true) more
  pub legal : IsLegalSoFar script told (events ++ more)
  pub ends : IsLegal script told (events ++ more) ⊎ WaitsForGuard script told (events ++ more)

-- wherever it has come to, a history in which bytes are told comes to an end
abbrev pub HistoriesComeToAnEnd : Type 0
HistoriesComeToAnEnd =
    (script : ScriptModel) (events : List Event) → IsWellFormed script →
    IsLegalSoFar script true events → ComesToAnEnd script true events

-- `open` itself releases each guard
abbrev pub ReleasesItsGuards : ScriptModel → Type 0
ReleasesItsGuards script =
    (guard : ℕ) → guard < script.guards →
    (n : ℕ) × Contains (opening_of script) n × (act_of script n ≡ Some (act.Release guard))

-- a whole history without a stop from outside and without a failure of the reactor
pub record HasHistory (script : ScriptModel) (told : Bool) : Type 0 where
  pub events : List Event
  pub within : All (λ shown. is_from_within shown ≡ true) events
  pub legal : IsLegal script told events

-- each script that releases its guards in `open` has one, whether bytes are told or not
abbrev pub ScriptsHaveHistories : Type 0
ScriptsHaveHistories =
    (script : ScriptModel) (told : Bool) → IsWellFormed script → ReleasesItsGuards script →
    HasHistory script told

-- What is to be said of the events of a trace.
use Rattle.std.specs.Prelude.{◌≡◌, ◌+◌, ℕ, Bool, List, ◌∷◌, ◌++◌, ◌-◌, length, take}
use Rattle.asio_types.specs.declared.event.Event.{Event}
use Rattle.history_rules.specs.Legal.{IsLegal, IsLegalSoFar, IsWhole, MayHappen, state_of}
use Rattle.session_script.specs.Script.{ScriptModel}
use Rattle.trace_check.specs.declared.verdict.Verdict.{Verdict}
use Rattle.trace_check.specs.declared.verdict.Verdict.TheVariants as verdict

-- the events before the one with this number, from 1, are legal so far, and it may not happen after
-- them
pub record IsIllegalAt (script : ScriptModel) (told : Bool) (events : List Event) (number : ℕ)
    : Type 0 where
  pub before : List Event
  pub event : Event
  pub after : List Event
  pub stands : events ≡ before ++ event ∷ after
  pub counted : number ≡ length before + 1
  pub legal : IsLegalSoFar script told before
  pub illegal : MayHappen script told (state_of script told before) event → ⊥

-- the events are legal so far, but a round is open or a handler is left
pub record IsIncomplete (script : ScriptModel) (told : Bool) (events : List Event) : Type 0 where
  pub legal : IsLegalSoFar script told events
  pub unfinished : IsWhole script (state_of script told events) → ⊥

-- this is the verdict on the events; told says whether the reactor tells its bytes
abbrev pub IsVerdict : ScriptModel → Bool → List Event → Verdict → Type 0
IsVerdict script told events verdict.Legal = IsLegal script told events
IsVerdict script told events (verdict.Illegal number) = IsIllegalAt script told events number
IsVerdict script told events verdict.Incomplete = IsIncomplete script told events

-- the events that are legal so far by this verdict
abbrev pub legal_part : Verdict → List Event → List Event
legal_part (verdict.Illegal number) events = take (number - 1) events
legal_part _ events = events

-- no events have two verdicts
abbrev pub VerdictsAreUnique : Type 0
VerdictsAreUnique =
    (script : ScriptModel) (told : Bool) (events : List Event) (first second : Verdict)
    → IsVerdict script told events first → IsVerdict script told events second → first ≡ second

-- What the checker says of the trace of a legal history.
use Rattle.std.specs.Prelude.{◌≡◌, ◌≤◌, ℕ, Bool, List, length}
use Rattle.asio_types.specs.declared.event.Event.{Event}
use Rattle.history_rules.specs.Legal.{IsLegal}
use Rattle.history_book.specs.Trace.{trace_of}
use Rattle.session_script.specs.Script.{ScriptModel}
use Rattle.trace_check.specs.Reading.{IsBadTrace, IsTraceOf, most_trace}
use Rattle.trace_check.specs.Verdict.{IsVerdict}
use Rattle.trace_check.specs.declared.verdict.Verdict.TheVariants as verdict

-- the trace of these events is read as them and nothing else, and is found legal for the script
pub record IsFoundLegal (script : ScriptModel) (told : Bool) (events : List Event) : Type 0 where
  pub read : IsTraceOf (trace_of events) events
  pub alone : (others : List Event) → IsTraceOf (trace_of events) others → others ≡ events
  pub good : (line : ℕ) → IsBadTrace (trace_of events) line → ⊥
  pub verdict : IsVerdict script told events verdict.Legal

-- the trace of these events, if it isn't too long, is found legal for each script of which they are
-- a legal history
abbrev pub AreFoundWhereLegal : List Event → Type 0
AreFoundWhereLegal events =
    length (trace_of events) ≤ most_trace → (script : ScriptModel) (told : Bool) →
    IsLegal script told events → IsFoundLegal script told events

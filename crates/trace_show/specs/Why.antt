-- What is said of the events of a trace, and why.
use Rattle.std.specs.Prelude.{◌≡◌, ◌+◌, ℕ, Bool, List, [], ◌∷◌, ◌++◌, length, Option, Some, None}
use Rattle.asio_types.specs.declared.event.Event.{Event}
use Rattle.history_rules.specs.Legal.{state_of}
use Rattle.session_script.specs.Script.{ScriptModel}
use Rattle.trace_check.specs.Line.{verdict_line}
use Rattle.trace_check.specs.declared.verdict.Verdict.{Verdict}
use Rattle.trace_check.specs.declared.verdict.Verdict.TheVariants as verdict
use Rattle.trace_show.specs.Reason.{Breaks}
use Rattle.trace_show.specs.RuleLine.{rule_line}
use Rattle.trace_show.specs.declared.reason.Reason.{Reason}

-- the event with this number, from 1, breaks this condition in the state of the events before it
pub record IsReasonAt (script : ScriptModel) (told : Bool) (events : List Event) (number : ℕ)
    (r : Reason) : Type 0 where
  pub before : List Event
  pub event : Event
  pub after : List Event
  pub stands : events ≡ before ++ event ∷ after
  pub counted : number ≡ length before + 1
  pub breaks : Breaks script told (state_of script told before) event r

-- the reason that is given with a verdict: one where an event is illegal, and else none
abbrev pub IsWhy : ScriptModel → Bool → List Event → Verdict → Option Reason → Type 0
IsWhy script told events (verdict.Illegal number) (Some r) = IsReasonAt script told events number r
IsWhy script told events (verdict.Illegal number) None = ⊥
IsWhy script told events verdict.Legal given = given ≡ None
IsWhy script told events verdict.Incomplete given = given ≡ None

-- the line of a condition, if there is one
abbrev pub rule_part : Option Reason → List ℕ
rule_part None = []
rule_part (Some r) = rule_line r

-- what is written of a trace with so many lines: the verdict, the condition, and then the rest
abbrev pub why_text : Verdict → Option Reason → ℕ → List ℕ → List ℕ
why_text said given lines rest = verdict_line said lines ++ rule_part given ++ rest

-- the text says the verdict on the events in its first line, and in its second one, where an event
-- is illegal, a condition that it breaks
pub record IsWhyText (script : ScriptModel) (told : Bool) (events : List Event) (said : Verdict)
    (text : List ℕ) : Type 0 where
  pub given : Option Reason
  pub why : IsWhy script told events said given
  pub rest : List ℕ
  pub is : text ≡ why_text said given (length events) rest

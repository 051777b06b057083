-- What an input asks: whether these events are a legal history of this script.
use Rattle.std.specs.Prelude.{◌≡◌, ◌≤◌, ◌<◌, ◌⊎◌, ℕ, List, Some, length}
use Rattle.asio_types.specs.declared.event.Event.{Event}
use Rattle.session_script.specs.Grammar.{IsScript, first_fault}
use Rattle.session_script.specs.Script.{ScriptModel}
use Rattle.session_script.specs.declared.refusal.Refusal.{Refusal}
use Rattle.trace_check.specs.Parting.{HasNoParting, InputParts, most_input}
use Rattle.trace_check.specs.Reading.{IsBadTrace, IsTraceOf, most_trace}

-- the input isn't too long and has these two parts
pub record HasParts (input script_text trace_text : List ℕ) : Type 0 where
  pub few : length input ≤ most_input
  pub parts : InputParts input script_text trace_text

-- the first part is the text of this script, and the second one isn't too long and is the trace of
-- these events
pub record IsQuestionOf (input : List ℕ) (script : ScriptModel) (events : List Event) : Type 0 where
  pub script_text : List ℕ
  pub trace_text : List ℕ
  pub has : HasParts input script_text trace_text
  pub is_script : IsScript script_text script
  pub short : length trace_text ≤ most_trace
  pub is_trace : IsTraceOf trace_text events

-- the first part is no script, and this is its first fault
pub record HasScriptFault (input : List ℕ) (refusal : Refusal) : Type 0 where
  pub script_text : List ℕ
  pub trace_text : List ℕ
  pub has : HasParts input script_text trace_text
  pub fault : first_fault script_text ≡ Some refusal

-- the first part is a script, and the second one no trace, which this line shows
pub record HasBadTrace (input : List ℕ) (line : ℕ) : Type 0 where
  pub script_text : List ℕ
  pub trace_text : List ℕ
  pub has : HasParts input script_text trace_text
  pub script : ScriptModel
  pub is_script : IsScript script_text script
  pub bad : IsBadTrace trace_text line

-- the input is too long, or nothing parts it, which is line 0; or it has a bad trace
abbrev pub HasNoTrace : List ℕ → ℕ → Type 0
HasNoTrace input line =
    ((line ≡ 0) × ((most_input < length input) ⊎ HasNoParting input)) ⊎ HasBadTrace input line

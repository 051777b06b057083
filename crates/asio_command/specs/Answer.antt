-- What is to be said of a script's text and a trace's text.
use Rattle.std.specs.Prelude.{◌≡◌, ℕ, Bool, List, length, Option, Some, None}
use Rattle.asio_types.specs.declared.event.Event.{Event}
use Rattle.session_script.specs.Grammar.{IsScript, first_fault}
use Rattle.session_script.specs.Script.{ScriptModel}
use Rattle.session_script.specs.declared.refusal.Refusal.{Refusal}
use Rattle.trace_check.specs.Reading.{IsBadTrace, IsTraceOf}
use Rattle.trace_check.specs.Verdict.{IsVerdict}
use Rattle.trace_check.specs.declared.verdict.Verdict.TheVariants as verdict
use Rattle.asio_command.specs.declared.answer.Answer.{Answer}
use Rattle.asio_command.specs.declared.answer.Answer.TheVariants as answer
use Rattle.command_words.specs.declared.status.CommandStatus.{CommandStatus}
use Rattle.command_words.specs.declared.status.CommandStatus.TheVariants as status

-- the answer says the checker's verdict on these events; told says whether the reactor tells its
-- bytes
abbrev pub IsVerdictOn : ScriptModel → Bool → List Event → Answer → Type 0
IsVerdictOn script told events answer.Legal = IsVerdict script told events verdict.Legal
IsVerdictOn script told events (answer.Illegal line) =
    IsVerdict script told events (verdict.Illegal line)
IsVerdictOn script told events (answer.Incomplete lines) =
    IsVerdict script told events verdict.Incomplete × (lines ≡ length events)
IsVerdictOn script told events other = ⊥

-- the texts are those of a script and of the trace of events on which this is the verdict
abbrev pub IsJudgement : List ℕ → List ℕ → Bool → Answer → Type 0
IsJudgement script_text trace_text told said =
    (script : ScriptModel) × (events : List Event) × IsScript script_text script
    × IsTraceOf trace_text events × IsVerdictOn script told events said

-- the text is that of a script
abbrev pub HasScript : List ℕ → Type 0
HasScript text = (script : ScriptModel) × IsScript text script

-- the first fault of a script's text, if it has one
abbrev pub IsRefusalIn : List ℕ → Option Refusal → Type 0
IsRefusalIn text None = HasScript text
IsRefusalIn text (Some refusal) = first_fault text ≡ Some refusal

-- the answer to a script's text, and to a trace's text where there is one
abbrev pub IsAnswer : List ℕ → Option (List ℕ) → Bool → Answer → Type 0
IsAnswer script trace told (answer.Refused refusal) = first_fault script ≡ Some refusal
IsAnswer script None told answer.NoTrace = HasScript script
IsAnswer script None told other = ⊥
IsAnswer script (Some trace) told (answer.BadTrace line) = HasScript script × IsBadTrace trace line
IsAnswer script (Some trace) told answer.NoTrace = ⊥
IsAnswer script (Some trace) told said = IsJudgement script trace told said

-- the status of an answer
abbrev pub status_of : Answer → CommandStatus
status_of answer.Legal = status.Done
status_of (answer.Illegal line) = status.Illegal
status_of (answer.Incomplete lines) = status.Illegal
status_of (answer.Refused refusal) = status.Refused
status_of (answer.BadTrace line) = status.BadTrace
status_of answer.NoTrace = status.BadTrace

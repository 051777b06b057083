-- What each status says of a session.
use Rattle.std.specs.Prelude.{◌≡◌, ◌⊎◌, ℕ, List, length, ⊤}
use Rattle.asio_types.specs.Faults.{Rose}
use Rattle.asio_types.specs.declared.event.Event.{Event}
use Rattle.history_rules.specs.Legal.{IsLegal}
use Rattle.session_script.specs.Script.{ScriptModel}
use Rattle.session_script.specs.declared.refusal.Refusal.{Refusal}
use Rattle.text_io.specs.Seen.{Seen, Writes, WritesPart}
use Rattle.text_io.specs.Text.{ReadsText}
use Rattle.trace_check.specs.Form.{HasCheckForm, IsCheckForm, form_tells}
use Rattle.trace_check.specs.Line.{verdict_line}
use Rattle.trace_check.specs.Parting.{most_input_read}
use Rattle.trace_check.specs.Question.{HasNoTrace, HasScriptFault, IsQuestionOf}
use Rattle.trace_check.specs.Status.{bad_note, check_note_of, check_refused_note}
use Rattle.trace_check.specs.Verdict.{IsVerdict}
use Rattle.trace_check.specs.declared.form.CheckForm.{CheckForm}
use Rattle.trace_check.specs.declared.status.CheckStatus.{CheckStatus}
use Rattle.trace_check.specs.declared.status.CheckStatus.TheVariants as status
use Rattle.trace_check.specs.declared.verdict.Verdict.{Verdict}
use Rattle.trace_check.specs.declared.verdict.Verdict.TheVariants as verdict

-- what a session was given, but for its notes
pub record CheckGiven : Type 0 where
  pub words : List (List ℕ)
  pub source : Seen (List ℕ)
  pub out : Seen (List ℕ)

-- an input was read, of which this holds
abbrev pub ReadsInput : Seen (List ℕ) → (List ℕ → Type 0) → Type 0
ReadsInput source Q =
    (input : List ℕ) × ReadsText most_input_read source.told_before input source.told_after
    × Q input

-- a script and events were read and judged by the words; Q holds of the verdict, and P of its line
pub record Judged (given : CheckGiven) (Q : Verdict → Type 0) (P : List ℕ → Type 0) : Type 0 where
  pub form : CheckForm
  pub words : IsCheckForm given.words form
  pub script : ScriptModel
  pub events : List Event
  pub read : ReadsInput given.source (λ input. IsQuestionOf input script events)
  pub verdict : Verdict
  pub is : IsVerdict script (form_tells form) events verdict
  pub kind : Q verdict
  pub written : P (verdict_line verdict (length events))

-- the verdict says that the events are a legal history
abbrev pub SaysLegal : Verdict → Type 0
SaysLegal said = said ≡ verdict.Legal

-- what each status says, and which note it leaves
abbrev pub CheckSays : CheckGiven → CheckStatus → List ℕ → Type 0
CheckSays given status.Done note =
    Judged given SaysLegal (Writes given.out) × (note ≡ check_note_of status.Done)
CheckSays given status.Usage note =
    (HasCheckForm given.words → ⊥) × (note ≡ check_note_of status.Usage)
CheckSays given status.Refused note =
    (refusal : Refusal) × HasCheckForm given.words
    × ReadsInput given.source (λ input. HasScriptFault input refusal)
    × (note ≡ check_refused_note refusal)
CheckSays given status.ReadFault note =
    HasCheckForm given.words × Rose given.source.faults_before given.source.faults_after
    × (note ≡ check_note_of status.ReadFault)
CheckSays given status.WriteFault note =
    Judged given (λ said. ⊤) (WritesPart given.out) × (note ≡ check_note_of status.WriteFault)
CheckSays given status.NoMemory note =
    HasCheckForm given.words × (note ≡ check_note_of status.NoMemory)
CheckSays given status.BadTrace note =
    (line : ℕ) × HasCheckForm given.words × ReadsInput given.source (λ input. HasNoTrace input line)
    × (note ≡ bad_note line)
CheckSays given status.Illegal note =
    Judged given (λ said. SaysLegal said → ⊥) (Writes given.out)
    × (note ≡ check_note_of status.Illegal)

-- what each status says; the notes got its note, or a first part where they failed
abbrev pub CheckAnswers : CheckGiven → Seen (List ℕ) → CheckStatus → Type 0
CheckAnswers given notes answer =
    (note : List ℕ) × CheckSays given answer note × (Writes notes note ⊎ WritesPart notes note)

-- the statuses with which nothing was written
abbrev pub LeavesOut : CheckStatus → Type 0
LeavesOut status.Done = ⊥
LeavesOut status.Usage = Unit {0}
LeavesOut status.Refused = Unit {0}
LeavesOut status.ReadFault = Unit {0}
LeavesOut status.WriteFault = ⊥
LeavesOut status.NoMemory = Unit {0}
LeavesOut status.BadTrace = Unit {0}
LeavesOut status.Illegal = ⊥

-- the source's count of faults rises with status 3, and every other status leaves it
abbrev pub CheckCountsReads : CheckStatus → ℕ → ℕ → Type 0
CheckCountsReads status.ReadFault before after = Rose before after
CheckCountsReads other before after = after ≡ before

-- out's count of faults rises with status 4, and every other status leaves it
abbrev pub CheckCountsWrites : CheckStatus → ℕ → ℕ → Type 0
CheckCountsWrites status.WriteFault before after = Rose before after
CheckCountsWrites other before after = after ≡ before

-- a verdict was written, or memory ran out
abbrev pub IsJudged : CheckStatus → Type 0
IsJudged answer = (answer ≡ status.Done) ⊎ ((answer ≡ status.Illegal) ⊎ (answer ≡ status.NoMemory))

-- the script was refused, or memory ran out
abbrev pub IsRefused : CheckStatus → Type 0
IsRefused answer = (answer ≡ status.Refused) ⊎ (answer ≡ status.NoMemory)

-- the trace was found bad, or memory ran out
abbrev pub IsBad : CheckStatus → Type 0
IsBad answer = (answer ≡ status.BadTrace) ⊎ (answer ≡ status.NoMemory)

-- Status 0 comes for a legal history alone, and status 8 for another one alone.
pub record Decides (answer : CheckStatus) (script : ScriptModel) (form : CheckForm)
    (events : List Event) : Type 0 where
  pub legal : answer ≡ status.Done → IsLegal script (form_tells form) events
  pub illegal : answer ≡ status.Illegal → IsLegal script (form_tells form) events → ⊥

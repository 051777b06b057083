-- What each status says of a session.
use Rattle.std.specs.Prelude.{◌≡◌, ℕ, Bool, List}
use Rattle.asio_types.specs.Faults.{Rose}
use Rattle.asio_types.specs.declared.event.Event.{Event}
use Rattle.history_rules.specs.Legal.{IsLegal}
use Rattle.session_script.specs.Script.{ScriptModel}
use Rattle.session_script.specs.declared.refusal.Refusal.{Refusal}
use Rattle.text_io.specs.Seen.{Seen, Writes}
use Rattle.trace_check.specs.Answer.{CheckGiven, ReadsInput, SaysLegal}
use Rattle.trace_check.specs.Question.{HasNoTrace, HasScriptFault, IsQuestionOf}
use Rattle.trace_check.specs.Verdict.{IsVerdict}
use Rattle.trace_check.specs.declared.status.CheckStatus.{CheckStatus}
use Rattle.trace_check.specs.declared.status.CheckStatus.TheVariants as status
use Rattle.trace_check.specs.declared.verdict.Verdict.{Verdict}
use Rattle.trace_check.specs.declared.verdict.Verdict.TheVariants as verdict
use Rattle.trace_show.specs.ShowForm.{HasShowForm, IsShowForm, show_form_tells}
use Rattle.trace_show.specs.Why.{IsWhyText}
use Rattle.trace_show.specs.declared.form.ShowForm.{ShowForm}
use Rattle.trace_show.specs.declared.form.ShowForm.TheVariants as forms
use Rattle.trace_show.specs.declared.session.ShowEnding.{ShowEnding}
use Rattle.trace_show.specs.declared.session.ShowEnding.TheVariants as ending

abbrev pub ending_status : ShowEnding → CheckStatus
ending_status (ending.Shown verdict.Legal) = status.Done
ending_status (ending.Shown other) = status.Illegal
ending_status ending.Usage = status.Usage
ending_status (ending.Refused refusal detail) = status.Refused
ending_status ending.ReadFault = status.ReadFault
ending_status ending.WriteFault = status.WriteFault
ending_status ending.NoMemory = status.NoMemory
ending_status (ending.BadTrace line) = status.BadTrace

-- what is written in a form; of a picture nothing is said
abbrev pub IsWritten : ShowForm → ScriptModel → List Event → Verdict → Seen (List ℕ) → Type 0
IsWritten forms.Picture script events said out = Unit {0}
IsWritten forms.PictureUntold script events said out = Unit {0}
IsWritten form script events said out =
    (text : List ℕ) × IsWhyText script (show_form_tells form) events said text × Writes out text

-- a script and events were read and shown by the words; Q holds of the verdict
pub record Shown (given : CheckGiven) (Q : Verdict → Type 0) : Type 0 where
  pub form : ShowForm
  pub words : IsShowForm given.words form
  pub script : ScriptModel
  pub events : List Event
  pub read : ReadsInput given.source (λ input. IsQuestionOf input script events)
  pub said : Verdict
  pub is : IsVerdict script (show_form_tells form) events said
  pub kind : Q said
  pub written : IsWritten form script events said given.out

-- what each status says
abbrev pub ShowSays : CheckGiven → CheckStatus → Type 0
ShowSays given status.Done = Shown given SaysLegal
ShowSays given status.Usage = HasShowForm given.words → ⊥
ShowSays given status.Refused =
    (refusal : Refusal) × HasShowForm given.words
    × ReadsInput given.source (λ input. HasScriptFault input refusal)
ShowSays given status.ReadFault =
    HasShowForm given.words × Rose given.source.faults_before given.source.faults_after
ShowSays given status.WriteFault =
    HasShowForm given.words × Rose given.out.faults_before given.out.faults_after
ShowSays given status.NoMemory = HasShowForm given.words
ShowSays given status.BadTrace =
    (line : ℕ) × HasShowForm given.words
    × ReadsInput given.source (λ input. HasNoTrace input line)
ShowSays given status.Illegal = Shown given (λ said. SaysLegal said → ⊥)

-- status 0 comes for a legal history alone, and status 8 for another one alone
pub record DecidesShown (answer : CheckStatus) (script : ScriptModel) (told : Bool)
    (events : List Event) : Type 0 where
  pub legal : answer ≡ status.Done → IsLegal script told events
  pub illegal : answer ≡ status.Illegal → IsLegal script told events → ⊥

-- the statuses with which nothing was written; for want of memory a part of a picture may stand
abbrev pub ShowsNothing : CheckStatus → Type 0
ShowsNothing status.Done = ⊥
ShowsNothing status.Usage = Unit {0}
ShowsNothing status.Refused = Unit {0}
ShowsNothing status.ReadFault = Unit {0}
ShowsNothing status.WriteFault = ⊥
ShowsNothing status.NoMemory = ⊥
ShowsNothing status.BadTrace = Unit {0}
ShowsNothing status.Illegal = ⊥

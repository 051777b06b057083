-- What each status says of a session.
use Rattle.std.specs.Prelude.{◌≡◌, ◌⊎◌, ℕ, List, Some, ⊤}
use Rattle.asio_types.specs.Faults.{Rose}
use Rattle.asio_types.specs.declared.event.Event.{Event}
use Rattle.session_script.specs.Script.{ScriptModel}
use Rattle.session_script.specs.Grammar.{first_fault}
use Rattle.session_script.specs.Limits.{most_read}
use Rattle.session_script.specs.Rules.{number_of_rule}
use Rattle.session_script.specs.declared.refusal.Refusal.{Refusal}
use Rattle.generated_session.specs.Summary.{summary_of}
use Rattle.history_book.specs.Trace.{trace_of}
use Rattle.op_handlers.specs.Marks.{Marks}
use Rattle.op_handlers.specs.Rack.{handlers_in}
use Rattle.op_handlers.specs.declared.rack.Rack.{Rack}
use Rattle.session_run.specs.Form.{HasForm, IsForm, IsRunning, Reads}
use Rattle.session_run.specs.Given.{Given, SeenReactor}
use Rattle.session_run.specs.Origin.{HasOrigin}
use Rattle.session_run.specs.Run.{IsRunOf, ShowsFault, ShowsNoFault}
use Rattle.session_run.specs.Status.{note_of, refused_note}
use Rattle.session_run.specs.Upgrade.{upgraded_text}
use Rattle.session_run.specs.declared.form.Form.{Form}
use Rattle.session_run.specs.declared.form.Form.TheVariants as forms
use Rattle.session_run.specs.declared.status.Status.{Status}
use Rattle.session_run.specs.declared.status.Status.TheVariants as status
use Rattle.text_io.specs.Seen.{Seen, Writes, WritesPart}
use Rattle.text_io.specs.Text.{ReadsText}

-- what is to be written of a run: the trace of its history, or the summary of that of a session
-- that two numbers made
abbrev pub text_of_run : Form → List Event → List ℕ
text_of_run (forms.Gen start size) events = summary_of start size events
text_of_run _ events = trace_of events

-- the script was run, Q holds of the events, and P of what is to be written
abbrev pub RunsScript : {H : Type 0} → Form → (H → Marks) → ScriptModel → SeenReactor → Rack H →
    Rack H → (List Event → Type 0) → (List ℕ → Type 0) → Type 0
RunsScript form marks script reactor old new Q P =
    (events : List Event) × IsRunOf marks script reactor old new events × Q events
    × P (text_of_run form events)

-- What is done with a script: it is run; or the text of its upgrade is to be written, and every
-- handler stays.
abbrev pub Does : {H : Type 0} → Form → (H → Marks) → ScriptModel → SeenReactor → Rack H → Rack H →
    (List Event → Type 0) → (List ℕ → Type 0) → Type 0
Does forms.Upgrade marks script reactor old new Q P =
    (handlers_in new ≡ handlers_in old) × P (upgraded_text script)
Does forms.Run marks script reactor old new Q P =
    RunsScript forms.Run marks script reactor old new Q P
Does forms.Net marks script reactor old new Q P =
    RunsScript forms.Net marks script reactor old new Q P
Does (forms.Gen start size) marks script reactor old new Q P =
    RunsScript (forms.Gen start size) marks script reactor old new Q P

-- a script was had, and was worked on
pub record Worked {H : Type 0} (marks : H → Marks) (given : Given H) (Q : List Event → Type 0)
    (P : List ℕ → Type 0) : Type 0 where
  pub form : Form
  pub words : IsForm given.words form
  pub script : ScriptModel
  pub origin : HasOrigin form given.source script
  pub work : Does form marks script given.reactor given.rack_before given.rack_after Q P

-- the fault of a text that is no script, by its rule, line and token: the first one
abbrev pub HasFault : List ℕ → ℕ → ℕ → ℕ → Type 0
HasFault text rule line token =
    (refusal : Refusal) × (first_fault text ≡ Some refusal) × (rule ≡ number_of_rule refusal.rule)
    × (line ≡ refusal.line)
    × (token ≡ refusal.token)

-- what was read has this fault
pub record Refuses (source : Seen (List ℕ)) (rule line token : ℕ) : Type 0 where
  pub text : List ℕ
  pub read : ReadsText most_read source.told_before text source.told_after
  pub fault : HasFault text rule line token

-- what each status says, and which note it leaves
abbrev pub Says : {H : Type 0} → (H → Marks) → Given H → Status → List ℕ → Type 0
Says marks given status.Done note =
    Worked marks given ShowsNoFault (Writes given.out) × (note ≡ note_of status.Done)
Says marks given status.Usage note = (HasForm given.words → ⊥) × (note ≡ note_of status.Usage)
Says marks given status.Refused note =
    (rule : ℕ) × (line : ℕ) × (token : ℕ)
    × Reads given.words × Refuses given.source rule line token
    × (note ≡ refused_note rule line token)
Says marks given status.ReadFault note =
    Reads given.words × Rose given.source.faults_before given.source.faults_after
    × (note ≡ note_of status.ReadFault)
Says marks given status.WriteFault note =
    Worked marks given (λ events. ⊤) (WritesPart given.out) × (note ≡ note_of status.WriteFault)
Says marks given status.ReactorFault note =
    (worked : Worked marks given ShowsFault (Writes given.out)) × IsRunning worked.form
    × (note ≡ note_of status.ReactorFault)
Says marks given status.NoMemory note = HasForm given.words × (note ≡ note_of status.NoMemory)

-- what each status says; the notes got its note, or a first part where they failed
abbrev pub Answers : {H : Type 0} → (H → Marks) → Given H → Seen (List ℕ) → Status → Type 0
Answers marks given notes answer =
    (note : List ℕ) × Says marks given answer note × (Writes notes note ⊎ WritesPart notes note)

-- the statuses with which nothing was run and nothing written
abbrev pub LeavesAll : Status → Type 0
LeavesAll status.Done = ⊥
LeavesAll status.Usage = Unit {0}
LeavesAll status.Refused = Unit {0}
LeavesAll status.ReadFault = Unit {0}
LeavesAll status.WriteFault = ⊥
LeavesAll status.ReactorFault = ⊥
LeavesAll status.NoMemory = Unit {0}

-- the source's count of faults rises with status 3, and every other status leaves it
abbrev pub CountsReads : Status → ℕ → ℕ → Type 0
CountsReads status.ReadFault before after = Rose before after
CountsReads other before after = after ≡ before

-- out's count of faults rises with status 4, and every other status leaves it
abbrev pub CountsWrites : Status → ℕ → ℕ → Type 0
CountsWrites status.WriteFault before after = Rose before after
CountsWrites other before after = after ≡ before

-- the statuses with which the reactor wasn't called
abbrev pub LeavesReactor : Status → Type 0
LeavesReactor status.Done = ⊥
LeavesReactor status.Usage = Unit {0}
LeavesReactor status.Refused = Unit {0}
LeavesReactor status.ReadFault = Unit {0}
LeavesReactor status.WriteFault = ⊥
LeavesReactor status.ReactorFault = ⊥
LeavesReactor status.NoMemory = ⊥

-- The reactor's count of faults rises with status 5, and may have risen with status 4, whose
-- history tells it. Every other status leaves it.
abbrev pub CountsReactor : Status → ℕ → ℕ → Type 0
CountsReactor status.WriteFault before after = ⊤
CountsReactor status.ReactorFault before after = Rose before after
CountsReactor other before after = after ≡ before

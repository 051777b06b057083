-- From the outcome of the work on a script to what the session says.
use Rattle.std.proofs.Common.{◌⊎◌, ℕ, List, Result, Ok, Err, inl, inr, refl}
use Rattle.std.specs.Prelude.{OnErr, OnOk}
use Rattle.asio_types.specs.Faults.{CountsFaults}
use Rattle.asio_types.specs.Sink.{ExtendsByPart}
use Rattle.asio_types.specs.declared.event.Event.{Event}
use Rattle.asio_types.specs.declared.failure.Failed.{Failed}
use Rattle.op_handlers.specs.Marks.{Marks}
use Rattle.op_handlers.specs.declared.rack.Rack.{Rack}
use Rattle.session_script.specs.Script.{ScriptModel}
use Rattle.session_run.specs.Answer.{Does, RunsScript, Says}
use Rattle.session_run.specs.Ending.{note_at, status_of}
use Rattle.session_run.specs.Form.{IsForm, IsRunning}
use Rattle.session_run.specs.Given.{Given, SeenReactor}
use Rattle.session_run.specs.Origin.{HasOrigin}
use Rattle.session_run.specs.Outcome.{Works, WroteHistory, ending_of}
use Rattle.session_run.specs.Run.{IsRunOf}
use Rattle.session_run.specs.declared.form.Form.{Form}
use Rattle.session_run.specs.declared.form.Form.TheVariants as forms
use Rattle.session_run.specs.declared.outcome.WorkOutcome.{WorkOutcome}
use Rattle.session_run.specs.declared.outcome.WorkOutcome.TheVariants as outcome
use Rattle.text_io.specs.Seen.{Seen, Writes, WritesPart}

-- what was done with the script of a form is what the session says
pub said : {H : Type 0} (marks : H → Marks) (given : Given H) (form : Form) (script : ScriptModel) (o : WorkOutcome)
    → IsForm given.words form → HasOrigin form given.source script
    → Works form marks script given.reactor given.rack_before given.rack_after given.out o
    → Says marks given (status_of (ending_of o)) (note_at (ending_of o))
said marks given form script outcome.Done words origin works =
    (record { form = form; words = words; script = script; origin = origin; work = works }, refl)
said marks given form script outcome.WriteFault words origin works =
    (record { form = form; words = words; script = script; origin = origin; work = works }, refl)
said marks given form script outcome.ReactorFault words origin works =
    (record { form = form; words = words; script = script; origin = origin; work = works.1 }, works.0, refl)
said marks given form script outcome.NoMemory words origin works = ((form, words), refl)

-- what is done with a script by a form that runs it
does : {H : Type 0} (form : Form) (marks : H → Marks) (script : ScriptModel) (reactor : SeenReactor) (old new : Rack H)
    (Q : List Event → Type 0) (P : List ℕ → Type 0) → IsRunning form
    → RunsScript form marks script reactor old new Q P → Does form marks script reactor old new Q P
does forms.Run marks script reactor old new Q P running runs = runs
does forms.Net marks script reactor old new Q P running runs = runs
does (forms.Gen start size) marks script reactor old new Q P running runs = runs
does forms.Upgrade marks script reactor old new Q P running runs = absurd running

-- a run whose text was written, as far as that went, is what was done with its script
pub ran : {H : Type 0} (form : Form) (marks : H → Marks) (script : ScriptModel) (reactor : SeenReactor)
    (old new : Rack H) (events : List Event) (out : Seen (List ℕ)) (o : WorkOutcome) → IsRunning form →
    IsRunOf marks script reactor old new events → WroteHistory form events out o →
    Works form marks script reactor old new out o
ran form marks script reactor old new events out outcome.Done running run wrote =
    does form marks script reactor old new _ _ running (events, run, wrote.0, wrote.1)
ran form marks script reactor old new events out outcome.WriteFault running run wrote =
    does form marks script reactor old new _ _ running (events, run, tt, wrote)
ran form marks script reactor old new events out outcome.ReactorFault running run wrote =
    (running, does form marks script reactor old new _ _ running (events, run, wrote.0, wrote.1))
ran form marks script reactor old new events out outcome.NoMemory running run wrote = absurd wrote

-- a note was written, or a first part of it where that failed
pub noted : (result : Result (Unit {0}) Failed) (notes : Seen (List ℕ)) (note : List ℕ) →
    OnOk result (Writes notes note) → OnErr result (ExtendsByPart notes.told_before note notes.told_after) →
    CountsFaults result notes.faults_before notes.faults_after → Writes notes note ⊎ WritesPart notes note
noted (Ok done) notes note whole part counts = inl whole
noted (Err failed) notes note whole part counts = inr (part, counts)

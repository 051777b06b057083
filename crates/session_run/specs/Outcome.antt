-- How the work on a script ended.
use Rattle.std.specs.Prelude.{◌≡◌, ℕ, List, ⊤}
use Rattle.asio_types.specs.Faults.{Rose}
use Rattle.asio_types.specs.declared.event.Event.{Event}
use Rattle.session_script.specs.Script.{ScriptModel}
use Rattle.op_handlers.specs.Marks.{Marks}
use Rattle.op_handlers.specs.declared.rack.Rack.{Rack}
use Rattle.session_run.specs.Answer.{Does, text_of_run}
use Rattle.session_run.specs.Form.{IsRunning}
use Rattle.session_run.specs.Given.{SeenReactor}
use Rattle.session_run.specs.Run.{ShowsFault, ShowsNoFault}
use Rattle.session_run.specs.declared.ending.Ending.{Ending}
use Rattle.session_run.specs.declared.ending.Ending.TheVariants as ending
use Rattle.session_run.specs.declared.form.Form.{Form}
use Rattle.session_run.specs.declared.outcome.WorkOutcome.{WorkOutcome}
use Rattle.session_run.specs.declared.outcome.WorkOutcome.TheVariants as outcome
use Rattle.text_io.specs.Seen.{Seen, Writes, WritesPart}

abbrev pub ending_of : WorkOutcome → Ending
ending_of outcome.Done = ending.Done
ending_of outcome.WriteFault = ending.WriteFault
ending_of outcome.ReactorFault = ending.ReactorFault
ending_of outcome.NoMemory = ending.NoMemory

-- what was written of a history
abbrev pub WroteHistory : Form → List Event → Seen (List ℕ) → WorkOutcome → Type 0
WroteHistory form events out outcome.Done =
    ShowsNoFault events × Writes out (text_of_run form events)
WroteHistory form events out outcome.WriteFault = WritesPart out (text_of_run form events)
WroteHistory form events out outcome.ReactorFault =
    ShowsFault events × Writes out (text_of_run form events)
WroteHistory form events out outcome.NoMemory = ⊥

-- what was written of a text; a reactor has no part in it
abbrev pub WroteText : List ℕ → Seen (List ℕ) → WorkOutcome → Type 0
WroteText text out outcome.Done = Writes out text
WroteText text out outcome.WriteFault = WritesPart out text
WroteText text out outcome.ReactorFault = ⊥
WroteText text out outcome.NoMemory = ⊤

-- what was done with a script
abbrev pub Works : {H : Type 0} → Form → (H → Marks) → ScriptModel → SeenReactor → Rack H → Rack H →
    Seen (List ℕ) → WorkOutcome → Type 0
Works form marks script reactor old new out outcome.Done =
    Does form marks script reactor old new ShowsNoFault (Writes out)
Works form marks script reactor old new out outcome.WriteFault =
    Does form marks script reactor old new (λ events. ⊤) (WritesPart out)
Works form marks script reactor old new out outcome.ReactorFault =
    IsRunning form × Does form marks script reactor old new ShowsFault (Writes out)
Works form marks script reactor old new out outcome.NoMemory = ⊤

-- out's count of faults rises where writing failed, and every other outcome leaves it
abbrev pub CountsWriting : WorkOutcome → ℕ → ℕ → Type 0
CountsWriting outcome.WriteFault before after = Rose before after
CountsWriting other before after = after ≡ before

-- the reactor's count of faults rises where it failed, may have risen where writing failed, and
-- stands else
abbrev pub CountsRunning : WorkOutcome → ℕ → ℕ → Type 0
CountsRunning outcome.Done before after = after ≡ before
CountsRunning outcome.WriteFault before after = ⊤
CountsRunning outcome.ReactorFault before after = Rose before after
CountsRunning outcome.NoMemory before after = after ≡ before

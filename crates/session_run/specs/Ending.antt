-- How a session ended, before its note is written; and why it had no script.
use Rattle.std.specs.Prelude.{◌≡◌, ℕ, List, Result, Ok, Err}
use Rattle.asio_types.specs.Faults.{Rose}
use Rattle.session_run.specs.Status.{note_of, refused_note}
use Rattle.session_run.specs.declared.ending.Ending.{Ending}
use Rattle.session_run.specs.declared.ending.Ending.TheVariants as ending
use Rattle.session_run.specs.declared.status.Status.{Status}
use Rattle.session_run.specs.declared.status.Status.TheVariants as status
use Rattle.session_run.specs.declared.origin.NoScript.{NoScript}
use Rattle.session_run.specs.declared.origin.NoScript.TheVariants as no_script

abbrev pub status_of : Ending → Status
status_of ending.Done = status.Done
status_of ending.Usage = status.Usage
status_of (ending.Refused refused) = status.Refused
status_of ending.ReadFault = status.ReadFault
status_of ending.WriteFault = status.WriteFault
status_of ending.ReactorFault = status.ReactorFault
status_of ending.NoMemory = status.NoMemory

-- the note of an ending; that of a refusal names its fault
abbrev pub note_at : Ending → List ℕ
note_at (ending.Refused refused) = refused_note refused.rule refused.line refused.token
note_at other = note_of (status_of other)

-- a failure raises the count of faults, and every other answer leaves it
abbrev pub CountsReading : {T : Type 0} → Result T NoScript → ℕ → ℕ → Type 0
CountsReading (Ok script) old new = new ≡ old
CountsReading (Err (no_script.Refused refused)) old new = new ≡ old
CountsReading (Err no_script.Failed) old new = Rose old new
CountsReading (Err no_script.NoMemory) old new = new ≡ old

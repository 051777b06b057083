-- How a program ends whose out was buffered.
use Rattle.std.specs.Prelude.{◌≡◌, ℕ, List, [], Result, Err, OnOk}
use Rattle.asio_types.specs.Faults.{CountsFaults}
use Rattle.asio_types.specs.declared.failure.Failed.{Failed}
use Rattle.session_run.specs.Status.{note_of}
use Rattle.session_run.specs.declared.status.Status.{Status}
use Rattle.session_run.specs.declared.status.Status.TheVariants as status

-- What a status becomes by the last flush's answer: where all would have been written, a failed
-- flush is a write fault. Nothing else changes.
abbrev pub status_at_last : Status → Result (Unit {0}) Failed → Status
status_at_last status.Done (Err failed) = status.WriteFault
status_at_last status.ReactorFault (Err failed) = status.WriteFault
status_at_last answer flushed = answer

-- the note at the end: the one that was kept, unless a failed flush changed the status
abbrev pub note_at_last : Status → List ℕ → Result (Unit {0}) Failed → List ℕ
note_at_last status.Done kept (Err failed) = note_of status.WriteFault
note_at_last status.ReactorFault kept (Err failed) = note_of status.WriteFault
note_at_last answer kept flushed = kept

-- a last flush that came to this: what it left in the buffer, and the counts of faults round it
pub record IsLastFlush (flushed : Result (Unit {0}) Failed) (unsent : List ℕ) (before after : ℕ) :
    Type 0 where
  pub all : OnOk flushed (unsent ≡ [])
  pub counts : CountsFaults flushed before after

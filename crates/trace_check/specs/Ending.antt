-- How a session ended, before its note is written.
use Rattle.std.specs.Prelude.{ℕ, List}
use Rattle.trace_check.specs.Status.{bad_note, check_note_of, check_refused_note}
use Rattle.trace_check.specs.declared.ending.CheckEnding.{CheckEnding}
use Rattle.trace_check.specs.declared.ending.CheckEnding.TheVariants as ending
use Rattle.trace_check.specs.declared.status.CheckStatus.{CheckStatus}
use Rattle.trace_check.specs.declared.status.CheckStatus.TheVariants as status
use Rattle.trace_check.specs.declared.verdict.Verdict.TheVariants as verdict

abbrev pub check_status_of : CheckEnding → CheckStatus
check_status_of (ending.Judged verdict.Legal) = status.Done
check_status_of (ending.Judged other) = status.Illegal
check_status_of ending.Usage = status.Usage
check_status_of (ending.Refused refusal) = status.Refused
check_status_of ending.ReadFault = status.ReadFault
check_status_of ending.WriteFault = status.WriteFault
check_status_of ending.NoMemory = status.NoMemory
check_status_of (ending.BadTrace line) = status.BadTrace

-- the note of an ending; those of a refusal and of a bad trace name what is wrong
abbrev pub check_note_at : CheckEnding → List ℕ
check_note_at (ending.Refused refusal) = check_refused_note refusal
check_note_at (ending.BadTrace line) = bad_note line
check_note_at other = check_note_of (check_status_of other)

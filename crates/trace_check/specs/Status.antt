-- What a status is outside: its number and its note.
use Rattle.std.specs.Prelude.{ℕ, List, [], ◌++◌, codes}
use Rattle.history_book.specs.Trace.{line_end}
use Rattle.session_script.specs.Rules.{number_of_rule}
use Rattle.session_script.specs.declared.refusal.Refusal.{Refusal}
use Rattle.text_io.specs.Note.{refusal_note}
use Rattle.trace_check.specs.Line.{numbered_line}
use Rattle.trace_check.specs.declared.status.CheckStatus.{CheckStatus}
use Rattle.trace_check.specs.declared.status.CheckStatus.TheVariants as status

abbrev pub check_number_of : CheckStatus → ℕ
check_number_of status.Done = 0
check_number_of status.Usage = 1
check_number_of status.Refused = 2
check_number_of status.ReadFault = 3
check_number_of status.WriteFault = 4
check_number_of status.NoMemory = 6
check_number_of status.BadTrace = 7
check_number_of status.Illegal = 8

-- a line of the program
abbrev pub check_note_line : List ℕ → List ℕ
check_note_line text = codes "asio_check: " ++ text ++ line_end

-- the note of a status; those of a refusal and of a bad trace name what is wrong
abbrev pub check_note_of : CheckStatus → List ℕ
check_note_of status.Done = []
check_note_of status.Usage = check_note_line (codes "usage: asio_check [--net]")
check_note_of status.Refused = []
check_note_of status.ReadFault = check_note_line (codes "read fault")
check_note_of status.WriteFault = check_note_line (codes "write fault")
check_note_of status.NoMemory = check_note_line (codes "no memory")
check_note_of status.BadTrace = []
check_note_of status.Illegal = []

-- the note of a refusal
abbrev pub check_refused_note : Refusal → List ℕ
check_refused_note refusal =
    refusal_note (codes "asio_check: refused ") (number_of_rule refusal.rule) refusal.line
    refusal.token

-- the note of a bad trace
abbrev pub bad_note : ℕ → List ℕ
bad_note line = numbered_line (codes "asio_check: bad trace at line ") line

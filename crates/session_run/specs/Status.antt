-- What a status is outside: its number and its note.
use Rattle.std.specs.Prelude.{ℕ, List, [], ◌∷◌, ◌++◌, codes}
use Rattle.session_run.specs.declared.status.Status.{Status}
use Rattle.session_run.specs.declared.status.Status.TheVariants as status
use Rattle.text_io.specs.Note.{refusal_note}

abbrev pub number_of : Status → ℕ
number_of status.Done = 0
number_of status.Usage = 1
number_of status.Refused = 2
number_of status.ReadFault = 3
number_of status.WriteFault = 4
number_of status.ReactorFault = 5
number_of status.NoMemory = 6

-- a line of the program
abbrev pub note_line : List ℕ → List ℕ
note_line text = codes "asio_run: " ++ text ++ 10 ∷ []

-- the note of a status; that of a refusal names its fault
abbrev pub note_of : Status → List ℕ
note_of status.Done = []
note_of status.Usage =
    note_line (codes "usage: asio_run run [--net] | asio_run gen START SIZE | asio_run upgrade")
note_of status.Refused = []
note_of status.ReadFault = note_line (codes "read fault")
note_of status.WriteFault = note_line (codes "write fault")
note_of status.ReactorFault = note_line (codes "reactor fault")
note_of status.NoMemory = note_line (codes "no memory")

-- the note of a refusal
abbrev pub refused_note : ℕ → ℕ → ℕ → List ℕ
refused_note rule line token = refusal_note (codes "asio_run: refused ") rule line token

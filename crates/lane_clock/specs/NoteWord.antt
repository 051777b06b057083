-- The word of a cell, this project's own: 0 where it is empty, and else one more than the
-- operation, the number of the code and the size side by side.
use Rattle.std.specs.Prelude.{ℕ, ◌+◌, ◌-◌, ◌*◌, ◌/◌, ◌%◌, ◌^◌, ◌<◌, ◌==◌, if◌then◌else◌, Option, Some, None}
use Rattle.asio_types.specs.declared.code.Code.{Code}
use Rattle.asio_types.specs.declared.code.Code.TheVariants as code
use Rattle.lane_clock.specs.declared.note.Note.{Note}

abbrev pub code_number : Code → ℕ
code_number code.Ok = 0
code_number code.Aborted = 1
code_number code.Eof = 2
code_number code.NotFound = 3
code_number code.Bad = 4
code_number code.Broken = 5
code_number code.Reset = 6

abbrev pub code_of : ℕ → Code
code_of k =
    if k == 0 then code.Ok else
    if k == 1 then code.Aborted else
    if k == 2 then code.Eof else
    if k == 3 then code.NotFound else
    if k == 4 then code.Bad else
    if k == 5 then code.Broken else code.Reset

-- a note that a cell can hold
abbrev pub IsNote : Note → Type 0
IsNote note = (note.op < 65535) × (note.size < 2 ^ 32)

abbrev pub note_word : Option Note → ℕ
note_word None = 0
note_word (Some note) = 1 + note.op + 65536 * code_number note.code + 16777216 * note.size

abbrev pub note_in_word : ℕ → Option Note
note_in_word w =
    if w == 0 then None else
    Some record {
      op = (w - 1) % 65536;
      code = code_of ((w - 1) / 65536 % 256);
      size = (w - 1) / 16777216 % 2 ^ 32;
    }

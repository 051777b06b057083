-- A note comes back from its word.
use Rattle.std.proofs.Common.{◌≡◌, ◌≢◌, ℕ, ◌+◌, ◌-◌, ◌*◌, ◌/◌, ◌%◌, ◌^◌, ◌<◌, ne_eqb, refl, ap, ◌∙◌, arith, Option, Some, None}
use Rattle.asio_types.specs.declared.code.Code.{Code}
use Rattle.asio_types.specs.declared.code.Code.TheVariants as code
use Rattle.lane_clock.specs.declared.note.Note.{Note}
use Rattle.lane_clock.specs.NoteWord.{code_number, code_of, IsNote, note_word, note_in_word}

code_small : (c : Code) → code_number c < 256
code_small code.Ok = omega arith
code_small code.Aborted = omega arith
code_small code.Eof = omega arith
code_small code.NotFound = omega arith
code_small code.Bad = omega arith
code_small code.Broken = omega arith
code_small code.Reset = omega arith

code_back : (c : Code) → code_of (code_number c) ≡ c
code_back code.Ok = refl
code_back code.Aborted = refl
code_back code.Eof = refl
code_back code.NotFound = refl
code_back code.Bad = refl
code_back code.Broken = refl
code_back code.Reset = refl

parts : (op c size : ℕ) → op < 65535 → c < 256 → size < 2 ^ 32 → let w : ℕ =
    1 + op + 65536 * c + 16777216 * size in ((w - 1) % 65536 ≡ op) × ((w - 1) / 65536 % 256 ≡ c)
    × ((w - 1) / 16777216 % 2 ^ 32 ≡ size)
parts op c size ho hc hs = (omega arith, omega arith, omega arith)

pub note_in_word-note_word : (note : Note) → IsNote note → note_in_word (note_word (Some note)) ≡ Some note
note_in_word-note_word note h =
    let c : ℕ = code_number note.code in
    let w : ℕ = 1 + note.op + 65536 * c + 16777216 * note.size in
    let p = parts note.op c note.size h.0 (code_small note.code) h.1 in
    let n : w ≢ 0 = λ e. absurd (omega arith) in
    rw (ne_eqb w 0 n) (λ i. Some record { op = p.0 i; code = (ap code_of p.1 ∙ code_back note.code) i; size = p.2 i })

-- of what a cell holds
abbrev pub IsHeld : Option Note → Type 0
IsHeld None = Unit {0}
IsHeld (Some note) = IsNote note

pub held_back : (held : Option Note) → IsHeld held → note_in_word (note_word held) ≡ held
held_back None h = refl
held_back (Some note) h = note_in_word-note_word note h

note_or : Note → Option Note → Note
note_or d None = d
note_or d (Some note) = note

pub some_same : {x y : Note} → Some x ≡ Some y → x ≡ y
unfolding note_or
some_same {x} {y} e = ap (note_or x) e

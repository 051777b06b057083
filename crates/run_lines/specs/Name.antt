-- A name, as text.
use Rattle.std.specs.Prelude.{ℕ, Bool, not, ◌&&◌, ◌==◌, nat_le, IsTrue, List, length, codes}
use Rattle.std.specs.List.{list_all}
use Rattle.run_lines.specs.declared.name.Kind.{Kind}
use Rattle.run_lines.specs.declared.name.Kind.TheVariants as kind

abbrev pub kind_text : Kind → List ℕ
kind_text kind.Strand = codes "strand"
kind_text kind.Thing = codes "thing"
kind_text kind.Op = codes "op"
kind_text kind.Thread = codes "thread"
kind_text kind.Context = codes "context"
kind_text kind.Lock = codes "lock"
kind_text kind.Mark = codes "mark"

-- a space, or what is printed
abbrev pub is_printable : ℕ → Bool
is_printable byte = nat_le 32 byte && nat_le byte 126

-- one or more printable ASCII characters
unfoldable pub is_text : List ℕ → Bool
is_text bytes = not (length bytes == 0) && list_all is_printable bytes

abbrev pub IsText : List ℕ → Type 0
IsText bytes = IsTrue (is_text bytes)

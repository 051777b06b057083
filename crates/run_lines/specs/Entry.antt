-- What a line of a run holds: what happened, or a name.
use Rattle.std.specs.Prelude.{◌≡◌, ℕ, List, [], ◌∷◌, codes}
use Rattle.std.specs.Fmt.{decimal}
use Rattle.std.specs.List.{join_with_byte}
use Rattle.run_lines.specs.declared.entry.Entry.{Entry}
use Rattle.run_lines.specs.declared.entry.Entry.TheVariants as entry
use Rattle.run_lines.specs.declared.line.Line.{Line}
use Rattle.run_lines.specs.declared.name.Kind.{Kind}
use Rattle.run_lines.specs.Line.{IsLine, doing_words}
use Rattle.run_lines.specs.Name.{IsText, kind_text}
use Rattle.run_lines.specs.Number.{Is64}

-- an entry, apart from where its text lies in memory
pub data PlainEntry : Type 0 where
  line : Line → PlainEntry
  name : Kind → ℕ → List ℕ → PlainEntry

abbrev pub plain : Entry → PlainEntry
plain (entry.Line happened) = line happened
plain (entry.Name given) = name given.kind given.number given.text.now

abbrev pub IsEntry : PlainEntry → Type 0
IsEntry (line happened) = IsLine happened
IsEntry (name kind number text) = Is64 number × IsText text

-- the words of an entry; the last one of a name may have spaces
abbrev pub entry_words : PlainEntry → List (List ℕ)
entry_words (line happened) = decimal happened.thread ∷ doing_words happened.does
entry_words (name kind number text) = codes "name" ∷ kind_text kind ∷ decimal number ∷ text ∷ []

-- the text of an entry, without the line feed at its end: its words, with one space between two
abbrev pub entry_text : PlainEntry → List ℕ
entry_text entry = join_with_byte 32 (entry_words entry)

-- these bytes are the line of this entry
abbrev pub IsEntryText : List ℕ → PlainEntry → Type 0
IsEntryText bytes entry = IsEntry entry × (bytes ≡ entry_text entry)

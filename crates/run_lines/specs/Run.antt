-- A run as text: its header, and a line for each entry.
use Rattle.std.specs.Prelude.{◌≡◌, ℕ, Bool, not, ◌==◌, IsTrue, List, [], ◌∷◌, ◌++◌, codes}
use Rattle.std.specs.List.{flat_map, list_all}
use Rattle.run_lines.specs.declared.line.Line.{Line}
use Rattle.run_lines.specs.Entry.{IsEntry, IsEntryText, PlainEntry, line, name, entry_text}

-- the header of this version, without its line feed
abbrev pub header : List ℕ
header = codes "run 1"

-- a line feed ends each line
abbrev pub with_line_feed : List ℕ → List ℕ
with_line_feed text = text ++ 10 ∷ []

-- the text of a run
abbrev pub run_text : List PlainEntry → List ℕ
run_text entries = with_line_feed header ++ flat_map (λ entry. with_line_feed (entry_text entry)) entries

abbrev pub AreEntries : List PlainEntry → Type 0
AreEntries [] = Unit {0}
AreEntries (entry ∷ entries) = IsEntry entry × AreEntries entries

-- these bytes are the run of these entries
abbrev pub IsRunText : List ℕ → List PlainEntry → Type 0
IsRunText bytes entries = AreEntries entries × (bytes ≡ run_text entries)

-- what happened, without the names
abbrev pub lines_of : List PlainEntry → List Line
lines_of [] = []
lines_of (line happened ∷ entries) = happened ∷ lines_of entries
lines_of (name kind number text ∷ entries) = lines_of entries

-- these bytes hold no such byte
abbrev pub lacks : ℕ → List ℕ → Bool
lacks byte bytes = list_all (λ b. not (b == byte)) bytes

-- the laws of texts

-- bytes are the text of one entry at most
abbrev pub EntriesAreUnique : Type 0
EntriesAreUnique =
    (bytes : List ℕ) (first second : PlainEntry) → IsEntryText bytes first → IsEntryText bytes second →
    first ≡ second

-- no text of an entry holds a line feed
abbrev pub EntriesStandOnOneLine : Type 0
EntriesStandOnOneLine = (entry : PlainEntry) → IsEntry entry → IsTrue (lacks 10 (entry_text entry))

-- bytes are the run of one list of entries at most
abbrev pub RunsAreUnique : Type 0
RunsAreUnique =
    (bytes : List ℕ) (first second : List PlainEntry) → IsRunText bytes first → IsRunText bytes second →
    first ≡ second

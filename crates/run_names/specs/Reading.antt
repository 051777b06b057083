-- The names that a text gives.
use Rattle.std.specs.Prelude.{◌≡◌, ◌⊎◌, ℕ, List, ◌∷◌, ◌++◌, Option, Some, None, Result, Err}
use Rattle.std.specs.List.{All, flat_map}
use Rattle.asio_types.specs.Faults.{Rose}
use Rattle.run_lines.specs.declared.name.Kind.{Kind}
use Rattle.run_lines.specs.Entry.{IsEntryText, PlainEntry, name}
use Rattle.run_lines.specs.Run.{with_line_feed}
use Rattle.run_reader.specs.Buffer.{HasNoLineFeed}
use Rattle.run_reader.specs.Reader.{IsTooLong}
use Rattle.run_names.specs.declared.names.Names.{Names}
use Rattle.run_names.specs.declared.reading.NotNamed.{NotNamed}
use Rattle.run_names.specs.declared.reading.NotNamed.TheVariants as fault
use Rattle.run_names.specs.Names.{name_at}

-- these bytes are the line of this entry, and of no other
pub record Reads (bytes : List ℕ) (entry : PlainEntry) : Type 0 where
  pub read : IsEntryText bytes entry
  pub only : (other : PlainEntry) → IsEntryText bytes other → entry ≡ other

-- this line gives no name to what has this number among its kind
abbrev pub NamesNot : Kind → ℕ → List ℕ → Type 0
NamesNot kind number bytes = (text : List ℕ) → ¬ (IsEntryText bytes (name kind number text))

-- this is the name that these lines give it last; none where no line does
abbrev pub IsLastName : List (List ℕ) → Kind → ℕ → Option (List ℕ) → Type 0
IsLastName lines kind number None = All (NamesNot kind number) lines
IsLastName lines kind number (Some text) =
    (front : List (List ℕ)) × (bytes : List ℕ) × (back : List (List ℕ)) × (lines ≡ front ++ bytes ∷ back)
    × IsEntryText bytes (name kind number text) × All (NamesNot kind number) back

-- these are the names that these lines give
abbrev pub AreNames : List (List ℕ) → Names → Type 0
AreNames lines names = (kind : Kind) (number : ℕ) → IsLastName lines kind number (name_at names kind number)

-- a text begins with these lines, and this stands behind them
abbrev pub IsParted : List ℕ → List (List ℕ) → List ℕ → Type 0
IsParted text lines rest = (text ≡ flat_map with_line_feed lines ++ rest) × All HasNoLineFeed lines

-- the names of all lines of a text; what stands behind these has no line feed, or is too long for a line
abbrev pub GivesNames : List ℕ → Names → Type 0
GivesNames text names =
    (lines : List (List ℕ)) × (rest : List ℕ) × IsParted text lines rest × AreNames lines names
    × (HasNoLineFeed rest ⊎ IsTooLong rest)

-- the same, where the source tells its text
abbrev pub AreNamesOf : Option (List ℕ) → Names → Type 0
AreNamesOf None names = Unit {0}
AreNamesOf (Some text) names = GivesNames text names

-- reading failed where the source's count of faults rose, and nowhere else
abbrev pub CountsNaming : {T : Type 0} → Result T NotNamed → ℕ → ℕ → Type 0
CountsNaming (Err fault.ReadFault) old new = Rose old new
CountsNaming _ old new = new ≡ old

-- so much of a text was read, and its names are kept
abbrev pub IsNaming : List ℕ → List ℕ → Option (List ℕ) → Names → Type 0
IsNaming text held None names = ⊥
IsNaming text held (Some left) names =
    (lines : List (List ℕ)) × IsParted text lines (held ++ left) × AreNames lines names

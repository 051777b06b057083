-- Bytes that were read and are held.
use Rattle.std.specs.Prelude.{◌≡◌, ◌≢◌, ◌↔◌, ℕ, ◌<◌, ◌≤◌, List, [], ◌++◌, length, take, drop, slice_index, Option, Some, None}
use Rattle.run_reader.specs.declared.buffer.More.{More}
use Rattle.run_reader.specs.declared.buffer.More.TheVariants as more
use Rattle.run_reader.specs.declared.buffer.Sought.{Sought}
use Rattle.run_reader.specs.declared.buffer.Sought.TheVariants as sought

-- bytes that are held, and how many more may follow them where they lie
pub record Held : Type 0 where
  pub bytes : List ℕ
  pub room : ℕ

-- the most bytes that are held
abbrev pub most_held : ℕ
most_held = 65536

-- No line feed is among these bytes.
abbrev pub HasNoLineFeed : List ℕ → Type 0
HasNoLineFeed bytes = (k : ℕ) → k < length bytes → slice_index bytes k ≢ 10

-- a source has lost its next bytes, which are now held behind the others; none are lost exactly at
-- its end
pub record MovesNext (n : ℕ) (held left : List ℕ) (held_after : List ℕ) (left_after : Option (List ℕ)) : Type 0 where
  pub moved : held_after ≡ held ++ take n left
  pub rest : left_after ≡ Some (drop n left)
  pub there : n ≤ length left
  pub end : (n ≡ 0) ↔ (left ≡ [])

-- the same, where the source tells what it has left
abbrev pub Moves : ℕ → List ℕ → Option (List ℕ) → List ℕ → Option (List ℕ) → Type 0
Moves n held None held_after left_after = Unit {0}
Moves n held (Some left) held_after left_after = MovesNext n held left held_after left_after

-- what is held and left together stays as it was, where the source tells it
abbrev pub KeepsText : List ℕ → Option (List ℕ) → List ℕ → Option (List ℕ) → Type 0
KeepsText held None held_after left_after = Unit {0}
KeepsText held (Some left) held_after None = ⊥
KeepsText held (Some left) held_after (Some left_after) = held_after ++ left_after ≡ held ++ left

-- nothing is left after this, where the source tells what it has
abbrev pub IsAtEnd : Option (List ℕ) → Option (List ℕ) → Type 0
IsAtEnd None left_after = Unit {0}
IsAtEnd (Some left) left_after = left_after ≡ Some []

-- what came of reading on
abbrev pub GivesMore : More → List ℕ → Option (List ℕ) → List ℕ → Option (List ℕ) → Type 0
GivesMore more.Bytes held left held_after left_after =
    (length held < length held_after) × (length held_after ≤ most_held)
GivesMore more.End held left held_after left_after = (held_after ≡ held) × IsAtEnd left left_after
GivesMore more.Full held left held_after left_after = (held_after ≡ held) × (length held ≡ most_held)

-- where the next line ends
abbrev pub IsSought : Sought → List ℕ → Option (List ℕ) → Option (List ℕ) → Type 0
IsSought (sought.Line at) held left left_after =
    (at < length held) × (slice_index held at ≡ 10) × ((k : ℕ) → k < at → slice_index held k ≢ 10)
    × (length held ≤ most_held)
IsSought sought.End held left left_after = (held ≡ []) × IsAtEnd left left_after
IsSought sought.Partial held left left_after =
    (0 < length held) × HasNoLineFeed held × IsAtEnd left left_after
IsSought sought.Full held left left_after = (length held ≡ most_held) × HasNoLineFeed held

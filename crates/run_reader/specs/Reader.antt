-- The lines of a text, one after another.
use Rattle.std.specs.Prelude.{◌≡◌, ℕ, ◌<◌, Bool, List, [], ◌∷◌, ◌++◌, length, Option, Some, None, Result, Ok, Err}
use Rattle.asio_types.specs.Faults.{Rose}
use Rattle.run_reader.specs.Buffer.{HasNoLineFeed, most_held}
use Rattle.run_reader.specs.declared.fault.ReadFault.{ReadFault}
use Rattle.run_reader.specs.declared.fault.ReadFault.TheVariants as fault

-- the line that is read, and what is held behind its line feed
pub record Reading : Type 0 where
  pub line : List ℕ
  pub held : List ℕ

-- what is held and left is a line, its line feed, and what is held and left then
abbrev pub TakesLine : List ℕ → Option (List ℕ) → List ℕ → List ℕ → Option (List ℕ) → Type 0
TakesLine held None line held_after left_after = Unit {0}
TakesLine held (Some left) line held_after None = ⊥
TakesLine held (Some left) line held_after (Some left_after) =
    held ++ left ≡ line ++ 10 ∷ (held_after ++ left_after)

-- nothing is held or left
abbrev pub IsWhollyRead : List ℕ → Option (List ℕ) → Type 0
IsWhollyRead held None = Unit {0}
IsWhollyRead held (Some left) = held ++ left ≡ []

-- something is held or left, and has no line feed
abbrev pub HasNoLastLineFeed : List ℕ → Option (List ℕ) → Type 0
HasNoLastLineFeed held None = Unit {0}
HasNoLastLineFeed held (Some left) = (0 < length (held ++ left)) × HasNoLineFeed (held ++ left)

-- the first bytes of a text, as many as are held at most, have no line feed
abbrev pub IsTooLong : List ℕ → Type 0
IsTooLong text =
    (front : List ℕ) × (back : List ℕ) × (text ≡ front ++ back) × (length front ≡ most_held)
    × HasNoLineFeed front

-- the line that is held and left is too long
abbrev pub BeginsTooLong : List ℕ → Option (List ℕ) → Type 0
BeginsTooLong held None = Unit {0}
BeginsTooLong held (Some left) = IsTooLong (held ++ left)

-- a failure of the source raises its count of faults, and every other answer leaves it
abbrev pub CountsReading : Result Bool ReadFault → ℕ → ℕ → Type 0
CountsReading (Err fault.Failed) old new = Rose old new
CountsReading (Err fault.NoLineFeed) old new = new ≡ old
CountsReading (Err fault.TooLong) old new = new ≡ old
CountsReading (Ok more) old new = new ≡ old

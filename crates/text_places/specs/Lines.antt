-- The lines of a text.
use Rattle.std.specs.Prelude.{◌≡◌, ◌≤◌, ◌+◌, ◌-◌, ◌⊎◌, ◌==◌, ℕ, List, [], ◌∷◌, length, take, slice_index, if◌then◌else◌}

-- a line begins at this place: at the front, or behind a line feed
abbrev pub BeginsLine : List ℕ → ℕ → Type 0
BeginsLine text at = (at ≡ 0) ⊎ (slice_index text (at - 1) ≡ 10)

-- how many line feeds stand in a text
abbrev pub line_feeds : List ℕ → ℕ
line_feeds [] = 0
line_feeds (b ∷ text) = (if b == 10 then 1 else 0) + line_feeds text

-- the line with this number, from 1, begins at this place
pub record IsLineAt (text : List ℕ) (number at : ℕ) : Type 0 where
  pub within : at ≤ length text
  pub begins : BeginsLine text at
  pub counted : line_feeds (take at text) + 1 ≡ number

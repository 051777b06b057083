-- The line and the column of a place in a text.
use Rattle.std.specs.Prelude.{◌≡◌, ◌≢◌, ◌≤◌, ◌<◌, ◌+◌, ℕ, List, slice_index}
use Rattle.text_places.specs.Lines.{BeginsLine}

-- the line in which a place lies begins here: no line feed stands between
pub record IsLineStart (text : List ℕ) (at begin : ℕ) : Type 0 where
  pub begins : BeginsLine text begin
  pub before : begin ≤ at
  pub whole : (k : ℕ) → begin ≤ k → k < at → slice_index text k ≢ 10

-- a place has this column, from 1, of its line
abbrev pub IsColumn : List ℕ → ℕ → ℕ → Type 0
IsColumn text at column = (begin : ℕ) × IsLineStart text at begin × (begin + column ≡ at + 1)

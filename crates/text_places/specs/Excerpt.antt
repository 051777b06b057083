-- A line, and carets below a place in it.
use Rattle.std.specs.Prelude.{◌≡◌, ◌<◌, ◌==◌, nat_le, not, ◌&&◌, ◌||◌, ℕ, List, ◌∷◌, ◌++◌, length, map, slice_index, if◌then◌else◌}

-- a byte as it is shown: a TAB and what has a form of its own as it is, and else `?`
abbrev pub shown_of : ℕ → ℕ
shown_of b = if (b == 9) || (nat_le 0x20 b && not (b == 0x7F)) then b else 63

-- the blank below a byte: a TAB below a TAB, and else a space
abbrev pub blank_of : ℕ → ℕ
blank_of b = if b == 9 then 9 else 32

-- The line of carets has its first caret where the shown line has the byte at this place of the
-- line, or the line's end.
pub record PointsAt (line : List ℕ) (at : ℕ) (shown carets : List ℕ) : Type 0 where
  pub front : List ℕ
  pub rest : List ℕ
  pub more : List ℕ
  pub shows : shown ≡ front ++ rest
  pub points : carets ≡ map blank_of front ++ 94 ∷ more
  pub byte : at < length line → slice_index rest 0 ≡ shown_of (slice_index line at)

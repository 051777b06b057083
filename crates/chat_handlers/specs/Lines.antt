-- Lines of bytes: each ends with a line feed (RFC 854, The NVT Printer and Keyboard), and pieces of them may be cut anywhere.
use Rattle.std.specs.Prelude.{◌≡◌, ◌==◌, ◌≤◌, ◌+◌, ◌-◌, ℕ, Bool, List, [], ◌∷◌, ◌++◌, length, take, false, if◌then◌else◌}
use Rattle.std.specs.List.{All, slice_index_or}

-- a line has at most so many bytes before its end
abbrev pub most_line : ℕ
most_line = 512

abbrev pub is_end : ℕ → Bool
is_end byte = byte == 10

-- no byte ends a line
abbrev pub HasNoEnd : List ℕ → Type 0
HasNoEnd bytes = All (λ b. is_end b ≡ false) bytes

pub record IsLine (line : List ℕ) : Type 0 where
  pub endless : HasNoEnd line
  pub short : length line ≤ most_line

-- bytes begin with this line, and these are behind its end
pub record BeginsWith (bytes line behind : List ℕ) : Type 0 where
  pub is_line : IsLine line
  pub parts : bytes ≡ line ++ 10 ∷ behind

-- they begin with no line: none ends, or the first is too long
abbrev pub BeginsWithNone : List ℕ → Type 0
BeginsWithNone bytes = HasNoEnd (take (most_line + 1) bytes)

-- these lines, each with its end
abbrev pub ended : List (List ℕ) → List ℕ
ended [] = []
ended (line ∷ lines) = line ++ 10 ∷ ended lines

abbrev pub AreLines : List (List ℕ) → Type 0
AreLines [] = Unit {0}
AreLines (line ∷ lines) = IsLine line × AreLines lines

-- a carriage return at its end is no part of a line
abbrev pub without_return : List ℕ → List ℕ
without_return line =
    if slice_index_or line (length line - 1) 0 == 13 then take (length line - 1) line else line

-- How long a text is.
use Rattle.std.specs.Prelude.{ℕ, ◌+◌, [], ◌∷◌, length}
use Rattle.session_script.specs.Text.{Words}

-- the bytes of words, with a space before each
abbrev pub span : Words → ℕ
span [] = 0
span (word ∷ words) = length word + 1 + span words

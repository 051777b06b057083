-- What stands in a note beside fixed words.
use Rattle.std.specs.Prelude.{ℕ, List, [], ◌∷◌, ◌++◌, codes}
use Rattle.std.specs.Fmt.{decimal}

-- words with a number behind them
abbrev pub field : List ℕ → ℕ → List ℕ
field words number = words ++ decimal number

-- the note of a refusal, which begins with these words
abbrev pub refusal_note : List ℕ → ℕ → ℕ → ℕ → List ℕ
refusal_note words rule line token =
    field words rule ++ field (codes " at line ") line ++ field (codes " token ") token ++ 10 ∷ []

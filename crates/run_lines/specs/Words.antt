-- A line as its words.
use Rattle.std.specs.Prelude.{ℕ, ◌==◌, List}
use Rattle.std.specs.List.{slice_split}

-- what stands between spaces: one word more than there are spaces
abbrev pub words_of : List ℕ → List (List ℕ)
words_of bytes = slice_split (λ byte. byte == 32) bytes

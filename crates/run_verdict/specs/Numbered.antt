-- A number within a text.
use Rattle.std.specs.Prelude.{ℕ, List, ◌++◌}
use Rattle.std.specs.Fmt.{decimal}

-- a number between two texts
abbrev pub numbered : List ℕ → ℕ → List ℕ → List ℕ
numbered front number back = (front ++ decimal number) ++ back

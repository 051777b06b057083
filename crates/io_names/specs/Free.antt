-- Which places of a table are free, as a list of them.
use Rattle.std.specs.Prelude.{◌≡◌, ℕ, ◌+◌, ◌==◌, List, [], ◌∷◌, count_by, length}
use Rattle.io_rules.specs.declared.place.Place.{Place}
use Rattle.io_rules.specs.Names.{is_unused, place_at}
use Rattle.io_rules.specs.Room.{one_if}

-- how many times a number is in a list
abbrev pub times : ℕ → List ℕ → ℕ
times n [] = 0
times n (x ∷ xs) = one_if (x == n) + times n xs

-- these are the free places, each once
pub record AreFree (free : List ℕ) (places : List Place) : Type 0 where
  pub once : (n : ℕ) → times n free ≡ one_if (is_unused (place_at places n).life)
  pub all : length free ≡ count_by (λ place. is_unused place.life) places

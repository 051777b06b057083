-- Lists of numbers, read as sets (this project's own).
use Rattle.std.specs.Prelude.{◌≡◌, ℕ, zero, suc, List, [], ◌∷◌, Bool, true, not, max, ◌==◌}
use Rattle.std.specs.List.{list_any, filter}

-- whether n is among them
abbrev pub has : ℕ → List ℕ → Bool
has n = list_any (λ x. n == x)

abbrev pub Has : List ℕ → ℕ → Type 0
Has xs n = has n xs ≡ true

-- all others of them
abbrev pub without_number : ℕ → List ℕ → List ℕ
without_number n = filter (λ x. not (n == x))

abbrev pub greatest : List ℕ → ℕ
greatest [] = 0
greatest (x ∷ xs) = max x (greatest xs)

-- the numbers below one, the greatest first
abbrev pub all_below : ℕ → List ℕ
all_below zero = []
all_below (suc n) = n ∷ all_below n

-- count numbers, from this one up
abbrev pub run_from : ℕ → ℕ → List ℕ
run_from first zero = []
run_from first (suc count) = first ∷ run_from (suc first) count

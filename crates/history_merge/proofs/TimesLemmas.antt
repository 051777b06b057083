-- How many elements of a list pass a test.
use Rattle.std.proofs.Common.{◌≡◌, ℕ, zero, suc, ◌+◌, ◌≤◌, Bool, true, false, List, [], ◌∷◌, ◌++◌, take, refl, sym, ap, ◌∙◌, arith}
use Rattle.std.specs.Prelude.{◌||◌, nat_lt}
use Rattle.std.specs.List.{list_any}
use Rattle.std.proofs.lemmas.Bool.{lt-ltb}
use mathlib.Core.Option.{some}
use lib.ListN.{get_elem?}
use Rattle.reactor_turns.proofs.SummingLemmas.{one_if}

abbrev pub times : {A : Type 0} → (A → Bool) → List A → ℕ
times test [] = 0
times test (x ∷ xs) = one_if (test x) + times test xs

pub times-append : {A : Type 0} → (test : A → Bool) (xs ys : List A) → times test (xs ++ ys) ≡ times test xs + times test ys
times-append test [] ys = omega arith
times-append test (x ∷ xs) ys = let rest = times-append test xs ys in omega (arith, rest)

pub take_times : {A : Type 0} → (test : A → Bool) (xs : List A) (k : ℕ) → times test (take k xs) ≤ times test xs
take_times test xs zero = omega arith
take_times test [] (suc k) = omega arith
take_times test (x ∷ xs) (suc k) = let rest = take_times test xs k in omega (arith, rest)

pub no_times : {A : Type 0} → (test : A → Bool) (xs : List A) →
    ((i : ℕ) (x : A) → get_elem? xs i ≡ some x → test x ≡ false) → times test xs ≡ 0
no_times test [] each = refl
no_times test (x ∷ xs) each =
    let rest = no_times test xs (λ i y at. each (suc i) y at) in
    let here = ap one_if (each 0 x refl) in omega (arith, rest, here)

-- whether one passes
pub any_times : {A : Type 0} → (test : A → Bool) (xs : List A) → list_any test xs ≡ nat_lt 0 (times test xs)
any_times test [] = refl
any_times test (x ∷ xs) = first (test x) (any_times test xs)
  where
    first : (b : Bool) → list_any test xs ≡ nat_lt 0 (times test xs) →
        (b || list_any test xs) ≡ nat_lt 0 (one_if b + times test xs)
    first true rest = sym (lt-ltb 0 (one_if true + times test xs) (omega arith))
    first false rest = rest ∙ ap (nat_lt 0) (let same : times test xs ≡ one_if false + times test xs = omega arith in same)

-- Counts of events, and counts that stand still at their end.
use Rattle.std.proofs.Common.{◌≡◌, ◌≢◌, ℕ, ◌+◌, ◌<◌, ◌==◌, Bool, true, false, cond, List, [], ◌∷◌, ◌++◌, arith}
use Rattle.std.proofs.Math.Nat.{min-eq_left}
use Rattle.std.proofs.lemmas.Bool.{ne_eqb}
use Rattle.std.proofs.lemmas.Bool.Decides.{nat_tests}
use Rattle.std.proofs.lemmas.List.Sums.{sum_by_push}
use Rattle.std.specs.List.{count_by}
use Rattle.asio_types.specs.Faults.{most_faults, one_more}

-- one, where the test passes
abbrev pub one_if : Bool → ℕ
one_if passes = cond passes 1 0

pub count-push : {X : Type 0} (p : X → Bool) (xs : List X) (x : X) →
    count_by p (xs ++ x ∷ []) ≡ count_by p xs + one_if (p x)
count-push p xs x = sum_by_push (λ x. cond (p x) 1 0) xs x

-- a count that isn't at its end
pub one_more-is : (n : ℕ) → n < most_faults → one_more n ≡ n + 1
one_more-is n below = min-eq_left (omega (arith, below))

pub same-is : (n : ℕ) → (n == n) ≡ true
same-is n = grind (arith, nat_tests)

pub apart-is : (m n : ℕ) → m ≢ n → (m == n) ≡ false
apart-is m n apart = ne_eqb m n apart

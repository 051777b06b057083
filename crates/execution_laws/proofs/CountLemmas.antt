-- Counts of events, which stand still at their end.
use Rattle.std.proofs.Common.{◌≡◌, ℕ, zero, suc, ◌+◌, ◌<◌, ◌≤◌, List, [], ◌∷◌, ◌++◌, inl, inr, length, refl, ap, ◌∙◌, arith}
use Rattle.std.proofs.Math.Nat.{le-min, min-eq_left, min-le_right}
use Rattle.std.proofs.lemmas.Bool.{cases_lt}
use Rattle.asio_types.specs.Faults.{most_faults, one_more}

pub one_more-bound : (n : ℕ) → one_more n ≤ most_faults
one_more-bound n = min-le_right (n + 1) most_faults

pub one_more-from : (n : ℕ) → n ≤ most_faults → n ≤ one_more n
one_more-from n within = le-min (omega arith) within

pub one_more-is : (n : ℕ) → n < most_faults → one_more n ≡ n + 1
one_more-is n below = min-eq_left (omega (arith, below))

-- a count that isn't at its end has risen
pub one_more-rose : (n : ℕ) → one_more n < most_faults → n < one_more n
one_more-rose n room = elim (cases_lt n most_faults) [
  | inl below ↦ let e = one_more-is n below in omega (arith, e)
  | inr end ↦
      let least : most_faults ≤ one_more n = le-min (omega (arith, end)) (omega arith) in
      absurd (omega (arith, least, room))
]

-- a count after so many more
abbrev pub later : ℕ → ℕ → ℕ
later zero n = n
later (suc k) n = later k (one_more n)

pub later-append : {A : Type 0} (xs ys : List A) (n : ℕ) →
    later (length (xs ++ ys)) n ≡ later (length ys) (later (length xs) n)
later-append [] ys n = refl
later-append (x ∷ xs) ys n = later-append xs ys (one_more n)

pub later-bound : (k n : ℕ) → n ≤ most_faults → later k n ≤ most_faults
later-bound zero n within = within
later-bound (suc k) n within = later-bound k (one_more n) (one_more-bound n)

pub later-from : (k n : ℕ) → n ≤ most_faults → n ≤ later k n
later-from zero n within = omega arith
later-from (suc k) n within =
    let next : n ≤ one_more n = one_more-from n within in
    let rest : one_more n ≤ later k (one_more n) = later-from k (one_more n) (one_more-bound n) in
    omega (arith, next, rest)

pub later-is : (k n : ℕ) → n + k ≤ most_faults → later k n ≡ n + k
later-is zero n within = omega arith
later-is (suc k) n within =
    ap (later k) (one_more-is n (omega (arith, within))) ∙ (later-is k (n + 1) (omega (arith, within)) ∙ omega arith)

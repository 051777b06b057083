-- Sums over numbers, and the drop marks of handlers that a context lets go of.
use Rattle.std.proofs.Common.{◌≡◌, ℕ, zero, suc, ◌+◌, ◌-◌, ◌<◌, ◌≤◌, Bool, true, false, List, [], ◌∷◌, length, inl, inr, refl, sym, ap, ◌∙◌, arith}
use Rattle.std.specs.List.{range_with_len, sum_by}
use Rattle.std.proofs.lemmas.Bool.{cases_lt}
use Rattle.session_script.specs.Script.{ScriptModel, is_op}
use Rattle.reactor_turns.proofs.SummingLemmas.{summed, summed-both, summed-range, summed-same}

-- where nothing is given from a number on
stands : (f : ℕ → ℕ) (a k : ℕ) → ((n : ℕ) → a ≤ n → f n ≡ 0) → summed f (a + k) ≡ summed f a
stands f a zero none = let e : a + 0 ≡ a = omega arith in ap (summed f) e
stands f a (suc k) none =
    let e : a + suc k ≡ suc (a + k) = omega arith in
    let here = none (a + k) (omega arith) in
    let rest = stands f a k none in
    let same : summed f (a + suc k) ≡ summed f (a + k) + f (a + k) = ap (summed f) e in
    omega (arith, here, rest, same)

-- so sums that go beyond two such numbers are the same
pub sums_far : (f : ℕ → ℕ) (a b : ℕ) → ((n : ℕ) → a ≤ n → f n ≡ 0) → ((n : ℕ) → b ≤ n → f n ≡ 0) →
    sum_by f (range_with_len 0 a) ≡ sum_by f (range_with_len 0 b)
sums_far f a b none_a none_b =
    summed-range f a
    ∙ (elim (cases_lt a b) [
      | inl less ↦ up_to a b (omega (arith, less)) none_a
      | inr more ↦ sym (up_to b a (omega (arith, more)) none_b)
    ] ∙ sym (summed-range f b))
  where
    up_to : (a b : ℕ) → a ≤ b → ((n : ℕ) → a ≤ n → f n ≡ 0) → summed f a ≡ summed f b
    up_to a b less none =
        let e : a + (b - a) ≡ b = omega (arith, less) in
        sym (stands f a (b - a) none) ∙ ap (summed f) e

-- what is given one by one is given in all
pub sums_both : (f g h : ℕ → ℕ) (n : ℕ) → ((m : ℕ) → f m + g m ≡ h m) →
    sum_by f (range_with_len 0 n) + sum_by g (range_with_len 0 n) ≡ sum_by h (range_with_len 0 n)
sums_both f g h n each =
    let one = summed-range f n in
    let other = summed-range g n in
    let both = summed-range h n in
    let add = summed-both f g n in
    let same = summed-same (λ m. f m + g m) h n each in
    omega (arith, one, other, both, add, same)

-- and the same below a number is the same in all
pub sums_below : (f g : ℕ → ℕ) (n : ℕ) → ((m : ℕ) → m < n → f m ≡ g m) →
    sum_by f (range_with_len 0 n) ≡ sum_by g (range_with_len 0 n)
sums_below f g n each = summed-range f n ∙ (below n each ∙ sym (summed-range g n))
  where
    below : (n : ℕ) → ((m : ℕ) → m < n → f m ≡ g m) → summed f n ≡ summed g n
    below zero each = refl
    below (suc n) each =
        let rest = below n (λ m less. each m (omega (arith, less))) in
        let here = each n (omega arith) in
        omega (arith, rest, here)

-- beyond the acts of a script there is no operation
pub no_op_beyond : (script : ScriptModel) (n : ℕ) → length script.acts ≤ n → is_op script n ≡ false
no_op_beyond script n beyond = by_case (is_op script n) refl
  where
    within : (acts : List _) (n : ℕ) → is_op (record script { acts = acts }) n ≡ true → n < length acts
    within [] n is = cc is
    within (entry ∷ acts) zero is = omega arith
    within (entry ∷ acts) (suc n) is = let less = within acts n is in omega arith

    by_case : (b : Bool) → is_op script n ≡ b → b ≡ false
    by_case true is = let less = within script.acts n is in absurd (omega (arith, less, beyond))
    by_case false is = refl

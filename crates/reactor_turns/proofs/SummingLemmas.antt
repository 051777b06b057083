-- Sums over the first numbers.
use Rattle.std.proofs.Common.{◌≡◌, ◌≢◌, ℕ, zero, suc, ◌+◌, ◌<◌, ◌≤◌, Bool, true, false, ◌||◌, cond, inl, inr, refl, sym, ap, ◌∙◌, arith}
use Rattle.std.specs.Prelude.{◌==◌, sum_by}
use Rattle.std.specs.List.{range_with_len}
use Rattle.std.proofs.lemmas.Bool.{cases_eq, eq-eqb, eqb-true, ne_eqb}
use Rattle.std.proofs.lemmas.List.Sums.{sum_by-cons}

abbrev pub one_if : Bool → ℕ
one_if b = cond b 1 0

-- the sum of what each of the first numbers gives
abbrev pub summed : (ℕ → ℕ) → ℕ → ℕ
summed f zero = 0
summed f (suc n) = summed f n + f n

-- a range is summed so
range_summed : (f : ℕ → ℕ) (a n : ℕ) → sum_by f (range_with_len a n) + summed f a ≡ summed f (a + n)
range_summed f a zero = let e : a ≡ a + 0 = omega arith in let same = ap (summed f) e in omega (arith, same)
range_summed f a (suc n) =
    let first = sum_by-cons f a (range_with_len (a + 1) n) in
    let rest = range_summed f (a + 1) n in
    let one : a + 1 ≡ suc a = omega arith in
    let here = ap (summed f) one in
    let e : a + 1 + n ≡ a + suc n = omega arith in
    let all = ap (summed f) e in
    omega (arith, first, rest, here, all)

pub summed-range : (f : ℕ → ℕ) (n : ℕ) → sum_by f (range_with_len 0 n) ≡ summed f n
summed-range f n =
    let all = range_summed f 0 n in
    let e : 0 + n ≡ n = omega arith in let same = ap (summed f) e in omega (arith, all, same)

pub summed-less : (f g : ℕ → ℕ) (n : ℕ) → ((m : ℕ) → f m ≤ g m) → summed f n ≤ summed g n
summed-less f g zero less = omega arith
summed-less f g (suc n) less = let rest = summed-less f g n less in let here = less n in omega (arith, rest, here)

pub summed-same : (f g : ℕ → ℕ) (n : ℕ) → ((m : ℕ) → f m ≡ g m) → summed f n ≡ summed g n
summed-same f g zero same = refl
summed-same f g (suc n) same = let rest = summed-same f g n same in let here = same n in omega (arith, rest, here)

pub summed-both : (f g : ℕ → ℕ) (n : ℕ) → summed (λ m. f m + g m) n ≡ summed f n + summed g n
summed-both f g zero = refl
summed-both f g (suc n) = let rest = summed-both f g n in omega (arith, rest)

-- what one number gives
abbrev pub only : ℕ → ℕ → ℕ → ℕ
only a k m = cond (a == m) k 0

summed-none : (a k n : ℕ) → n ≤ a → summed (only a k) n ≡ 0
summed-none a k zero less = refl
summed-none a k (suc n) less =
    let rest = summed-none a k n (omega (arith, less)) in
    let here : only a k n ≡ 0 = ap (λ b. cond b k 0) (ne_eqb a n (λ same. absurd (omega (arith, same, less)))) in
    omega (arith, rest, here)

pub summed-only : (a k n : ℕ) → a < n → summed (only a k) n ≡ k
summed-only a k zero less = absurd (omega (arith, less))
summed-only a k (suc n) less = elim (cases_eq a n) [
  | inl same ↦
      let none = summed-none a k n (omega (arith, same)) in
      let here : only a k n ≡ k = ap (λ b. cond b k 0) (eq-eqb a n same) in
      omega (arith, none, here)
  | inr differ ↦
      let rest = summed-only a k n (omega (arith, less, differ)) in
      let here : only a k n ≡ 0 = ap (λ b. cond b k 0) (ne_eqb a n differ) in
      omega (arith, rest, here)
]

-- where one number gives so much more
pub summed-apart : (f g : ℕ → ℕ) (a k n : ℕ) → a < n → f a + k ≤ g a → ((m : ℕ) → m ≢ a → f m ≤ g m) →
    summed f n + k ≤ summed g n
summed-apart f g a k n within here others =
    let one = summed-only a k n within in
    let both = summed-both f (only a k) n in
    let less = summed-less (λ m. f m + only a k m) g n each in
    omega (arith, one, both, less)
  where
    each : (m : ℕ) → f m + only a k m ≤ g m
    each m = elim (cases_eq a m) [
      | inl same ↦
          let is : only a k m ≡ k = ap (λ b. cond b k 0) (eq-eqb a m same) in
          let left = ap f same in
          let right = ap g same in
          omega (arith, is, left, right, here)
      | inr differ ↦
          let is : only a k m ≡ 0 = ap (λ b. cond b k 0) (ne_eqb a m differ) in
          let rest = others m (λ same. differ (sym same)) in
          omega (arith, is, rest)
    ]

-- what the numbers that pass a test give
abbrev pub weigh : (ℕ → ℕ) → (ℕ → Bool) → ℕ → ℕ
weigh weight test n = summed (λ m. cond (test m) (weight m) 0) n

pub weigh-same : (weight : ℕ → ℕ) (one two : ℕ → Bool) (n : ℕ) → ((m : ℕ) → one m ≡ two m) →
    weigh weight one n ≡ weigh weight two n
weigh-same weight one two n same =
    summed-same (λ m. cond (one m) (weight m) 0) (λ m. cond (two m) (weight m) 0) n (λ m. ap (λ b. cond b (weight m) 0) (same m))

either_weighs : (a b : Bool) (k : ℕ) → (a ≡ true → b ≡ true → ⊥) → cond (a || b) k 0 ≡ cond a k 0 + cond b k 0
either_weighs true true k never = absurd (never refl refl)
either_weighs true false k never = omega arith
either_weighs false true k never = omega arith
either_weighs false false k never = omega arith

-- two tests that no number passes both
pub weigh-either : (weight : ℕ → ℕ) (one two : ℕ → Bool) (n : ℕ) → ((m : ℕ) → one m ≡ true → two m ≡ true → ⊥) →
    weigh weight (λ m. one m || two m) n ≡ weigh weight one n + weigh weight two n
weigh-either weight one two n never =
    summed-same (λ m. cond (one m || two m) (weight m) 0) (λ m. cond (one m) (weight m) 0 + cond (two m) (weight m) 0) n
    (λ m. either_weighs (one m) (two m) (weight m) (never m))
    ∙ summed-both (λ m. cond (one m) (weight m) 0) (λ m. cond (two m) (weight m) 0) n

more_weighs : (here there : Bool) (k w : ℕ) → (here ≡ true → k ≡ w) → (here ≡ true → there ≡ false) →
    cond (cond here true there) w 0 ≡ cond here k 0 + cond there w 0
more_weighs true true k w is alone = absurd (cc (alone refl))
more_weighs true false k w is alone = let same = is refl in omega (arith, same)
more_weighs false there k w is alone = omega arith

-- a number, and others
pub weigh-more : (weight : ℕ → ℕ) (a n : ℕ) (others : ℕ → Bool) → a < n → others a ≡ false →
    weigh weight (λ m. cond (a == m) true (others m)) n ≡ weight a + weigh weight others n
weigh-more weight a n others less alone =
    let one = summed-only a (weight a) n less in
    let both = summed-both (only a (weight a)) (λ m. cond (others m) (weight m) 0) n in
    let split =
    summed-same (λ m. cond (cond (a == m) true (others m)) (weight m) 0)
    (λ m. only a (weight a) m + cond (others m) (weight m) 0) n
    (λ m.
    more_weighs (a == m) (others m) (weight a) (weight m) (λ same. ap weight (eqb-true a m same))
    (λ same. ap others (sym (eqb-true a m same)) ∙ alone)) in
    omega (arith, one, both, split)

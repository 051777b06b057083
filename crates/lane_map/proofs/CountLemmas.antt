-- Counts of numbers that pass a test, and tables of a function.
use Rattle.std.proofs.Common.{◌≡◌, ℕ, zero, suc, ◌+◌, ◌<◌, ◌≤◌, ◌==◌, List, [], ◌∷◌, Bool, true, false, inl, inr, cond, length, get_or, map, refl, sym, ap, subst, subst₂, ◌∙◌, arith}
use Rattle.std.specs.Prelude.{◌&&◌, slice_set}
use Rattle.std.specs.List.{count_by, range_with_len}
use Rattle.std.proofs.lemmas.List.{get_or-set_other, get_or-set_same}
use Rattle.std.proofs.lemmas.List.FromFn.{fill_by_all, get_or-map-range_with_len, length-map-range_with_len, length-range_with_len}
use Rattle.std.proofs.lemmas.List.Sums.{count_by-le-length, sum_by-cons}
use Rattle.std.proofs.lemmas.Bool.{cases_lt, eq-eqb, eqb-true}
use Rattle.lane_map.specs.LaneNumbers.{passing_before}

-- a table of a function
pub read_table : (f : ℕ → ℕ) (xs : List ℕ) (n i : ℕ) → xs ≡ map f (range_with_len 0 n) → i < n → get_or xs i 0 ≡ f i
read_table f xs n i is less =
    ap (λ ys. get_or ys i 0) is ∙ get_or-map-range_with_len f 0 n i i 0 less (omega arith)

pub table_length : (f : ℕ → ℕ) (xs : List ℕ) (n : ℕ) → xs ≡ map f (range_with_len 0 n) → length xs ≡ n
table_length f xs n is = ap length is ∙ length-map-range_with_len f 0 n

one : (ℕ → Bool) → ℕ → ℕ
one test n = cond (test n) 1 0

-- one number more, at the end
count_longer : (test : ℕ → Bool) (a n : ℕ) →
    count_by test (range_with_len a (suc n)) ≡ count_by test (range_with_len a n) + cond (test (a + n)) 1 0
count_longer test a zero =
    let first : count_by test (a ∷ []) ≡ cond (test a) 1 0 + 0 = sum_by-cons (λ x. cond (test x) 1 0) a [] in
    let same : test (a + 0) ≡ test a = ap test (omega arith) in
    first ∙ rw same (omega arith)
count_longer test a (suc n) =
    let cons : count_by test (a ∷ range_with_len (a + 1) (suc n))
    ≡ cond (test a) 1 0 + count_by test (range_with_len (a + 1) (suc n)) =
    sum_by-cons (λ x. cond (test x) 1 0) a (range_with_len (a + 1) (suc n)) in
    let before : count_by test (a ∷ range_with_len (a + 1) n)
    ≡ cond (test a) 1 0 + count_by test (range_with_len (a + 1) n) =
    sum_by-cons (λ x. cond (test x) 1 0) a (range_with_len (a + 1) n) in
    let rest : count_by test (range_with_len (a + 1) (suc n))
    ≡ count_by test (range_with_len (a + 1) n) + cond (test (a + 1 + n)) 1 0 = count_longer test (a + 1) n in
    let same : test (a + 1 + n) ≡ test (a + suc n) = ap test (omega arith) in
    let moved : count_by test (range_with_len (a + 1) n) + cond (test (a + 1 + n)) 1 0
    ≡ count_by test (range_with_len (a + 1) n) + cond (test (a + suc n)) 1 0 =
    ap (λ (t : Bool). count_by test (range_with_len (a + 1) n) + cond t 1 0) same in
    omega (arith, cons, before, rest, moved)

pub passing_more : (test : ℕ → Bool) (n : ℕ) →
    passing_before test (n + 1) ≡ passing_before test n + cond (test n) 1 0
passing_more test n =
    let e : n + 1 ≡ suc n = omega arith in
    let same : test (0 + n) ≡ test n = ap test (omega arith) in
    ap (passing_before test) e ∙ count_longer test 0 n ∙ rw same refl

pub passing_here : (test : ℕ → Bool) (n : ℕ) → test n ≡ true →
    passing_before test (n + 1) ≡ passing_before test n + 1
passing_here test n is = passing_more test n ∙ rw is refl

pub passing_by : (test : ℕ → Bool) (n : ℕ) → test n ≡ false → passing_before test (n + 1) ≡ passing_before test n
passing_by test n is = passing_more test n ∙ rw is (omega arith)

pub passing_fits : (test : ℕ → Bool) (n : ℕ) → passing_before test n ≤ n
passing_fits test n =
    omega (arith, count_by-le-length test (range_with_len 0 n), length-range_with_len 0 n)

-- before a later number as many pass or more
pub passing_le : (test : ℕ → Bool) (m n : ℕ) → m ≤ n → passing_before test m ≤ passing_before test n
passing_le test m zero le =
    let e : m ≡ 0 = omega (arith, le) in
    omega (arith, ap (passing_before test) e)
passing_le test m (suc n) le = elim (cases_lt m (suc n)) [
  | inl less ↦ omega (arith, passing_le test m n (omega (arith, less)), count_longer test 0 n)
  | inr more ↦
      let e : m ≡ suc n = omega (arith, le, more) in omega (arith, ap (passing_before test) e)
]

-- and more where a number between them passes
pub passing_less : (test : ℕ → Bool) (m n : ℕ) → m < n → test m ≡ true → passing_before test m < passing_before test n
passing_less test m n less is =
    omega (arith, passing_here test m is, passing_le test (m + 1) n (omega (arith, less)))

-- where all pass
pub passing_all : (n : ℕ) → passing_before (λ k. true) n ≡ n
passing_all zero = refl
passing_all (suc n) =
    let more : passing_before (λ k. true) (suc n) ≡ passing_before (λ k. true) n + 1 = count_longer (λ k. true) 0 n in
    omega (arith, more, passing_all n)

-- of each of so many lanes how many of the first acts pass a test and have it as their home
abbrev pub AreCounted : (ℕ → Bool) → (ℕ → ℕ) → ℕ → ℕ → List ℕ → Type 0
AreCounted test home lanes n counts =
    (k : ℕ) → k < lanes → get_or counts k 0 ≡ passing_before (λ m. test m && (home m == k)) n

module _ (test : ℕ → Bool) (home : ℕ → ℕ) (lanes n : ℕ) (counts : List ℕ) where
  pub counted_fits : AreCounted test home lanes n counts → (k : ℕ) → k < lanes → get_or counts k 0 ≤ n
  counted_fits counted k less =
      omega (arith, counted k less, passing_fits (λ m. test m && (home m == k)) n)

  pub one_passed : test n ≡ false → AreCounted test home lanes n counts → AreCounted test home lanes (n + 1) counts
  one_passed none counted k less =
      counted k less ∙ sym (passing_by (λ m. test m && (home m == k)) n (rw none refl))

  pub one_counted : test n ≡ true → home n < length counts → AreCounted test home lanes n counts →
      AreCounted test home lanes (n + 1) (slice_set counts (home n) (get_or counts (home n) 0 + 1))
  one_counted is within counted k less = by (home n == k) refl
    where
      by : (same : Bool) → (home n == k) ≡ same →
          get_or (slice_set counts (home n) (get_or counts (home n) 0 + 1)) k 0
          ≡ passing_before (λ m. test m && (home m == k)) (n + 1)
      by true here =
          let e : home n ≡ k = eqb-true (home n) k here in
          let at : get_or (slice_set counts (home n) (get_or counts (home n) 0 + 1)) k 0 ≡ get_or counts k 0 + 1 =
          subst (λ m. get_or (slice_set counts (home n) (get_or counts (home n) 0 + 1)) m 0 ≡ get_or counts m 0 + 1) e
          (get_or-set_same counts (home n) (get_or counts (home n) 0 + 1) 0 within) in
          at ∙ ap (λ m. m + 1) (counted k less)
          ∙ sym (passing_here (λ m. test m && (home m == k)) n (rw (is, here) refl))
      by false other =
          get_or-set_other counts (home n) k (get_or counts (home n) 0 + 1) 0
          (λ same. let yes' : (home n == k) ≡ true = eq-eqb (home n) k (sym same) in absurd (cc (yes', other)))
          ∙ counted k less ∙ sym (passing_by (λ m. test m && (home m == k)) n (rw (is, other) refl))

  pub all_counted : length counts ≡ lanes → AreCounted test home lanes n counts →
      counts ≡ map (λ k. passing_before (λ m. test m && (home m == k)) n) (range_with_len 0 lanes)
  all_counted size counted =
      fill_by_all (λ k. passing_before (λ m. test m && (home m == k)) n) counts lanes 0 size counted

  pub counted_at : (place was : ℕ) → place ≡ home n → was ≡ get_or counts place 0 → test n ≡ true →
      home n < length counts → AreCounted test home lanes n counts →
      AreCounted test home lanes (n + 1) (slice_set counts place (was + 1))
  counted_at place was at read is within counted =
      subst₂ (λ (p w : ℕ). AreCounted test home lanes (n + 1) (slice_set counts p (w + 1))) (sym at)
      (sym (read ∙ ap (λ p. get_or counts p 0) at)) (one_counted is within counted)

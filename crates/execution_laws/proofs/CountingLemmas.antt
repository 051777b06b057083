-- How many numbers pass a test.
use Rattle.std.proofs.Common.{◌≡◌, ℕ, zero, suc, ◌+◌, ◌<◌, ◌≤◌, Bool, true, false, not, ◌&&◌, ◌||◌, cond, List, [], ◌∷◌, get_or, inl, inr, length, refl, sym, ap, ◌∙◌, arith}
use Rattle.std.specs.Prelude.{◌==◌, count_by}
use Rattle.std.specs.List.{All, Any, range_with_len}
use Rattle.std.proofs.Math.Bool.{and-true}
use Rattle.std.proofs.lemmas.Bool.{and_from, and_parts, and_right, cases_eq, eq-eqb, eqb-true, false_from_ne_true, ne_eqb}
use Rattle.std.proofs.lemmas.List.Elements.{All-head, All-tail}
use Rattle.std.proofs.lemmas.List.Sums.{sum_by-cons}
use Rattle.execution_laws.proofs.RisingLemmas.{Rises, any_either}

-- how many of the first numbers pass the test
abbrev pub counted : (ℕ → Bool) → ℕ → ℕ
counted test zero = 0
counted test (suc n) = counted test n + cond (test n) 1 0

pub counted-most : (test : ℕ → Bool) (n : ℕ) → counted test n ≤ n
counted-most test zero = omega arith
counted-most test (suc n) = let rest = counted-most test n in one_more (test n) rest
  where
    one_more : (b : Bool) → counted test n ≤ n → counted test n + cond b 1 0 ≤ suc n
    one_more true rest = omega (arith, rest)
    one_more false rest = omega (arith, rest)

either_one : (a b : Bool) → (a ≡ true → b ≡ true → ⊥) → cond (a || b) 1 0 ≡ cond a 1 0 + cond b 1 0
either_one true true never = absurd (never refl refl)
either_one true false never = refl
either_one false true never = refl
either_one false false never = refl

-- two tests that no number passes both
pub counted-either : (one two : ℕ → Bool) (n : ℕ) → ((m : ℕ) → one m ≡ true → two m ≡ true → ⊥) →
    counted (λ m. one m || two m) n ≡ counted one n + counted two n
counted-either one two zero never = refl
counted-either one two (suc n) never =
    let rest = counted-either one two n never in
    let here = either_one (one n) (two n) (never n) in
    omega (arith, rest, here)

-- a number that is found alone
counted-none : (a n : ℕ) → n ≤ a → counted (λ m. a == m) n ≡ 0
counted-none a zero less = refl
counted-none a (suc n) less =
    let rest = counted-none a n (omega (arith, less)) in
    let differs : (a == n) ≡ false = ne_eqb a n (λ same. absurd (omega (arith, same, less))) in
    ap (λ b. counted (λ m. a == m) n + cond b 1 0) differs ∙ omega (arith, rest)

pub counted-one : (a n : ℕ) → a < n → counted (λ m. a == m) n ≡ 1
counted-one a zero less = absurd (omega (arith, less))
counted-one a (suc n) less = elim (cases_eq a n) [
  | inl same ↦
      let none = counted-none a n (omega (arith, same)) in
      ap (λ b. counted (λ m. a == m) n + cond b 1 0) (eq-eqb a n same) ∙ omega (arith, none)
  | inr differ ↦
      let rest = counted-one a n (omega (arith, less, differ)) in
      ap (λ b. counted (λ m. a == m) n + cond b 1 0) (ne_eqb a n differ) ∙ omega (arith, rest)
]

pub counted-same : (one two : ℕ → Bool) (n : ℕ) → ((m : ℕ) → one m ≡ two m) → counted one n ≡ counted two n
counted-same one two zero same = refl
counted-same one two (suc n) same =
    ap (λ (c : ℕ). c + cond (one n) 1 0) (counted-same one two n same)
    ∙ ap (λ (b : Bool). counted two n + cond b 1 0) (same n)

cond_or : (a b : Bool) → cond a true b ≡ (a || b)
cond_or true b = refl
cond_or false b = refl

-- a number, and others
pub counted-more : (a n : ℕ) (others : ℕ → Bool) → a < n → others a ≡ false →
    counted (λ m. cond (a == m) true (others m)) n ≡ 1 + counted others n
counted-more a n others less alone =
    let one = counted-one a n less in
    let never = λ (m : ℕ) (here : (a == m) ≡ true) (there : others m ≡ true).
    absurd (let wrong : false ≡ true = sym alone ∙ (ap others (eqb-true a m here) ∙ there) in cc) in
    counted-same (λ m. cond (a == m) true (others m)) (λ m. (a == m) || others m) n (λ m. cond_or (a == m) (others m))
    ∙ (counted-either (λ m. a == m) others n never ∙ ap (λ c. c + counted others n) one)

-- no number passes
pub counted-never : (test : ℕ → Bool) (n : ℕ) → ((m : ℕ) → test m ≡ true → ⊥) → counted test n ≡ 0
counted-never test zero never = refl
counted-never test (suc n) never =
    let rest = counted-never test n never in
    ap (λ (b : Bool). counted test n + cond b 1 0) (false_from_ne_true (test n) (never n)) ∙ omega (arith, rest)

-- a range is counted so
range_counted : (test : ℕ → Bool) (a n : ℕ) → count_by test (range_with_len a n) + counted test a ≡ counted test (a + n)
range_counted test a zero = let e : a ≡ a + 0 = omega arith in let same = ap (counted test) e in omega (arith, same)
range_counted test a (suc n) =
    let first = sum_by-cons (λ m. cond (test m) 1 0) a (range_with_len (a + 1) n) in
    let rest = range_counted test (a + 1) n in
    let one : a + 1 ≡ suc a = omega arith in
    let here = ap (counted test) one in
    let e : a + 1 + n ≡ a + suc n = omega arith in
    let all = ap (counted test) e in
    omega (arith, first, rest, here, all)

pub counted-range : (test : ℕ → Bool) (n : ℕ) → count_by test (range_with_len 0 n) ≡ counted test n
counted-range test n =
    let all = range_counted test 0 n in
    let e : 0 + n ≡ n = omega arith in let same = ap (counted test) e in omega (arith, all, same)

split_at : (test : ℕ → Bool) (a m : ℕ) → test a ≡ true → test m ≡ cond (a == m) true (test m && not (a == m))
split_at test a m is = by_test (a == m) refl
  where
    by_test : (b : Bool) → (a == m) ≡ b → test m ≡ cond b true (test m && not b)
    by_test true same = ap test (sym (eqb-true a m same)) ∙ is
    by_test false differ = sym (and-true (test m))

-- a list of all that pass, in which something rises, is as long as there are such numbers
pub counted-list : {X : Type 0} (place : ℕ → ℕ) (key : X → ℕ) (n : ℕ) (test : ℕ → Bool) (xs : List X) →
    Rises (λ x. place (key x)) xs → All (λ x. test (key x) ≡ true) xs → All (λ x. key x < n) xs →
    ((m : ℕ) → test m ≡ true → Any (λ x. key x ≡ m) xs) → counted test n ≡ length xs
counted-list place key n test [] rises each within all =
    counted-never test n (λ m is. let found = all m is in absurd (omega (arith, found.2)))
counted-list {X} place key n test (x ∷ xs) rises each within all =
    let a : ℕ = key x in
    let others : ℕ → Bool = λ m. test m && not (a == m) in
    let here : test a ≡ true = All-head (λ x. test (key x) ≡ true) x xs each in
    let apart : All (λ y. (a == key y) ≡ false) xs = λ k d below.
    ne_eqb a (key (get_or xs k d))
    (λ same. let less = rises.0 k d below in let e = ap place same in absurd (omega (arith, less, e))) in
    let alone : others a ≡ false = and_right (test a) (not (a == a)) (ap not (eq-eqb a a refl)) in
    let one = counted-more a n others (All-head (λ x. key x < n) x xs within) alone in
    let rest : counted others n ≡ length xs =
    counted-list place key n others xs rises.1
    (λ k d below.
    and_from (test (key (get_or xs k d))) (not (a == key (get_or xs k d)))
    (All-tail (λ x. test (key x) ≡ true) x xs each k d below) (ap not (apart k d below)))
    (All-tail (λ x. key x < n) x xs within)
    (λ m is.
    let parts = and_parts (test m) (not (a == m)) is in
    elim (any_either (λ x. key x ≡ m) x xs (all m parts.0)) [
      | inl same ↦ absurd (let wrong : false ≡ true = sym (ap not (eq-eqb a m same)) ∙ parts.1 in cc)
      | inr later ↦ later
    ]) in
    counted-same test (λ m. cond (a == m) true (others m)) n (λ m. split_at test a m here) ∙ (one ∙ omega (arith, rest))

-- Lists of numbers, read as sets.
use Rattle.std.proofs.Common.{◌≡◌, ◌≢◌, ℕ, zero, suc, ◌+◌, ◌<◌, ◌≤◌, ◌⊎◌, eqb, max, not, ◌||◌, List, [], ◌∷◌, ◌++◌, true, false, cond, sym, refl, ap, ◌∙◌, subst, ⊎_elim, arith, eqb-true, eq-eqb, ne_eqb}
use Rattle.std.proofs.lemmas.Bool.{true≢false, or_left, or_right, or_cases, cases_lt, cases_eq}
use Rattle.std.proofs.lemmas.Map.Views.{any-filter_same}
use Rattle.std.proofs.lemmas.List.Folds.{list_any-append}
use Rattle.turn_table.specs.Numbers.{all_below, has, Has, without_number, greatest, run_from}

pub has_head : (n : ℕ) (xs : List ℕ) → Has (n ∷ xs) n
has_head n xs = or_left (eqb n n) (has n xs) (eq-eqb n n refl)

pub has_tail : (n x : ℕ) (xs : List ℕ) → Has xs n → Has (x ∷ xs) n
has_tail n x xs h = or_right (eqb n x) (has n xs) h

pub has_one : (n x : ℕ) → Has (x ∷ []) n → n ≡ x
has_one n x h = ⊎_elim (eqb-true n x) (λ e. absurd (true≢false (sym e))) (or_cases (eqb n x) false h)

pub has-cons_other : (n x : ℕ) (xs : List ℕ) → n ≢ x → has n (x ∷ xs) ≡ has n xs
has-cons_other n x xs other = ap (λ b. b || has n xs) (ne_eqb n x other)

pub has-append_left : (n : ℕ) (xs ys : List ℕ) → Has xs n → Has (xs ++ ys) n
has-append_left n xs ys h = list_any-append (eqb n) xs ys ∙ or_left (has n xs) (has n ys) h

pub has-append_right : (n : ℕ) (xs ys : List ℕ) → Has ys n → Has (xs ++ ys) n
has-append_right n xs ys h = list_any-append (eqb n) xs ys ∙ or_right (has n xs) (has n ys) h

pub has-append_cases : (n : ℕ) (xs ys : List ℕ) → Has (xs ++ ys) n → Has xs n ⊎ Has ys n
has-append_cases n xs ys h = or_cases (has n xs) (has n ys) (sym (list_any-append (eqb n) xs ys) ∙ h)

pub has-without_same : (n : ℕ) (xs : List ℕ) → has n (without_number n xs) ≡ false
has-without_same n xs = any-filter_same (eqb n) (λ x. not (eqb n x)) false (λ x e. ap not e) xs

pub has-without_other : (k n : ℕ) (xs : List ℕ) → k ≢ n → has k (without_number n xs) ≡ has k xs
has-without_other k n xs other =
    any-filter_same (eqb k) (λ x. not (eqb n x)) true (λ x e. ap not (ne_eqb n x (λ same. other (eqb-true k x e ∙ sym same)))) xs

-- a number among all others of them is another one
pub has_without : (k n : ℕ) (xs : List ℕ) → Has (without_number n xs) k → (k ≢ n) × Has xs k
has_without k n xs h =
    let apart : k ≢ n = λ e. true≢false (sym h ∙ (ap (λ m. has m (without_number n xs)) e ∙ has-without_same n xs)) in
    (apart, sym (has-without_other k n xs apart) ∙ h)

greatest_of : (x : ℕ) (xs : List ℕ) → (0 < greatest xs → Has xs (greatest xs)) → Has (x ∷ xs) (greatest (x ∷ xs))
greatest_of x xs there = ⊎_elim
    (λ (l : x < greatest xs).
    subst (Has (x ∷ xs)) (let e : greatest xs ≡ max x (greatest xs) = omega arith in e)
    (has_tail (greatest xs) x xs (there (omega arith))))
    (λ (l : greatest xs ≤ x). subst (Has (x ∷ xs)) (let e : x ≡ max x (greatest xs) = omega arith in e) (has_head x xs))
    (cases_lt x (greatest xs))

greatest_above_zero : (xs : List ℕ) → 0 < greatest xs → Has xs (greatest xs)
greatest_above_zero [] l = absurd (omega arith)
greatest_above_zero (x ∷ xs) l = greatest_of x xs (greatest_above_zero xs)

-- the greatest is one of them, where there is one
pub has_greatest : (n : ℕ) (xs : List ℕ) → Has xs n → Has xs (greatest xs)
has_greatest n [] h = absurd (true≢false (sym h))
has_greatest n (x ∷ xs) h = greatest_of x xs (greatest_above_zero xs)

-- and none is greater
pub has-le_greatest : (n : ℕ) (xs : List ℕ) → Has xs n → n ≤ greatest xs
has-le_greatest n [] h = absurd (true≢false (sym h))
has-le_greatest n (x ∷ xs) h =
    ⊎_elim (λ e. let same = eqb-true n x e in omega arith) (λ there. let l = has-le_greatest n xs there in omega arith)
    (or_cases (eqb n x) (has n xs) h)

-- the numbers below one are all of these
pub has_below : (k n : ℕ) → k < n → Has (all_below n) k
has_below k zero less = absurd (omega arith)
has_below k (suc n) less = ⊎_elim (λ e. or_left (eqb k n) _ (eq-eqb k n e))
    (λ other. or_right (eqb k n) _ (has_below k n (omega arith))) (cases_eq k n)

pub below-bound : (k n : ℕ) → Has (all_below n) k → k < n
below-bound k zero h = absurd (true≢false (sym h))
below-bound k (suc n) h = ⊎_elim (λ e. let same = eqb-true k n e in omega arith)
    (λ there. let less = below-bound k n there in omega arith) (or_cases (eqb k n) _ h)

-- a run has the numbers from its first one on
pub has_run : (n first count : ℕ) → first ≤ n → n < first + count → Has (run_from first count) n
has_run n first zero low high = absurd (omega arith)
has_run n first (suc count) low high = ⊎_elim (λ e. or_left (eqb n first) _ (eq-eqb n first e))
    (λ other. or_right (eqb n first) _ (has_run n (suc first) count (omega arith) (omega arith))) (cases_eq n first)

pub run-bounds : (n first count : ℕ) → Has (run_from first count) n → (first ≤ n) × (n < first + count)
run-bounds n first zero h = absurd (true≢false (sym h))
run-bounds n first (suc count) h = ⊎_elim (λ e. let same = eqb-true n first e in (omega arith, omega arith))
    (λ there.
    let b = run-bounds n (suc first) count there in let low = b.0 in let high = b.1 in (omega arith, omega arith))
    (or_cases (eqb n first) _ h)

pub run-greatest : (first count : ℕ) → greatest (run_from first (suc count)) ≡ first + count
run-greatest first zero = omega arith
run-greatest first (suc count) =
    let e = run-greatest (suc first) count in
    let g : ℕ = greatest (run_from (suc first) (suc count)) in let e' : g ≡ suc first + count = e in
    let goal : max first g ≡ first + suc count = omega arith in goal

filter_yes : (x n : ℕ) (xs : List ℕ) → n ≢ x → without_number n (x ∷ xs) ≡ x ∷ without_number n xs
filter_yes x n xs other = ap (λ b. cond (not b) (x ∷ without_number n xs) (without_number n xs)) (ne_eqb n x other)

filter_no : (n : ℕ) (xs : List ℕ) → without_number n (n ∷ xs) ≡ without_number n xs
filter_no n xs = ap (λ b. cond (not b) (n ∷ without_number n xs) (without_number n xs)) (eq-eqb n n refl)

-- what is not among them isn't missed
pub without_none : (n : ℕ) (xs : List ℕ) → (¬ Has xs n) → without_number n xs ≡ xs
without_none n [] h = refl
without_none n (x ∷ xs) h =
    filter_yes x n xs (λ e. h (or_left (eqb n x) (has n xs) (eq-eqb n x e)))
    ∙ ap (λ l. x ∷ l) (without_none n xs (λ there. h (has_tail n x xs there)))

-- a turn that was taken and given is as if it had not been taken
pub without_cons : (n : ℕ) (xs : List ℕ) → (¬ Has xs n) → without_number n (n ∷ xs) ≡ xs
without_cons n xs h = filter_no n xs ∙ without_none n xs h

-- without the greatest of them, the others are left
pub below-without : (n : ℕ) → without_number n (all_below (suc n)) ≡ all_below n
below-without n = without_cons n (all_below n) (λ h. let less = below-bound n n h in omega arith)

pub run-without_greatest : (first count : ℕ) →
    without_number (greatest (run_from first (suc count))) (run_from first (suc count)) ≡ run_from first count
run-without_greatest first count =
    ap (λ g. without_number g (run_from first (suc count))) (run-greatest first count) ∙ last first count
  where
    last : (first count : ℕ) → without_number (first + count) (run_from first (suc count)) ≡ run_from first count
    last first zero =
        ap (λ g. without_number g (first ∷ [])) (let e : first + 0 ≡ first = omega arith in e) ∙ filter_no first []
    last first (suc count) = filter_yes first (first + suc count) (run_from (suc first) (suc count)) (λ e. omega arith)
        ∙ ap (λ l. first ∷ l) (ap (λ g. without_number g (run_from (suc first) (suc count)))
        (let e : first + suc count ≡ suc first + count = omega arith in e) ∙ last (suc first) count)

-- of two different numbers, one is left without the third
pub kept_number : (g : ℕ) (xs : List ℕ) (one other : ℕ) → one ≢ other → Has xs one → Has xs other →
    (n : ℕ) × Has (without_number g xs) n
kept_number g xs one other apart first second =
    ⊎_elim (λ (e : one ≡ g). (other, has-without_other other g xs (λ f. apart (e ∙ sym f)) ∙ second))
    (λ ne. (one, has-without_other one g xs ne ∙ first)) (cases_eq one g)

-- Which wait is at a place, and which has a number.
use Rattle.std.proofs.Common.{◌≡◌, ◌≢◌, ℕ, zero, suc, ◌<◌, Bool, true, false, not, cond, List, [], ◌∷◌, get_or, ap, sym, refl, subst, ◌∙◌, ⊎_elim, inl, inr, arith}
use Rattle.std.specs.Prelude.{◌==◌, ◌⊎◌, nat_lt, filter, Some, None, if◌then◌else◌}
use Rattle.std.proofs.lemmas.Bool.{true≢false}
use Rattle.std.proofs.lemmas.Bool.Decides.{nat_tests}
use Rattle.io_rules.proofs.StrandLemmas.{by_test}
use Rattle.io_rules.proofs.TotalLemmas.{equal, same}
use Rattle.io_queues.specs.Queued.{first_of, found, found_in, others}
use Rattle.io_timers.specs.declared.pending.PendingWait.{PendingWait}
use Rattle.io_timers.specs.Kept.{AreApart, Each, Rises, in_order, put, put_all}
use Rattle.io_timers.specs.Pending.{Entry, is_other, number_of, numbered_in}
use Rattle.io_timers.proofs.OrderLemmas.{each-both, each-weaker, filter-same, put-apart, put_all-apart}

pub apart_test : (a b : ℕ) → a ≢ b → (a == b) ≡ false
apart_test a b ne = grind (arith, nat_tests)

-- it is one of them
abbrev pub IsIn : {T : Type 0} → Entry (PendingWait T) → List (Entry (PendingWait T)) → Type 0
IsIn w [] = ⊥
IsIn w (x ∷ xs) = (w ≡ x) ⊎ IsIn w xs

pub each-in : {T : Type 0} (P : Entry (PendingWait T) → Type 0) (w : Entry (PendingWait T))
    (xs : List (Entry (PendingWait T))) → Each P xs → IsIn w xs → P w
each-in P w [] all there = absurd there
each-in P w (x ∷ xs) all there =
    ⊎_elim (λ (e : w ≡ x). subst P (sym e) all.0) (λ (rest : IsIn w xs). each-in P w xs all.1 rest) there

pub none_some : {X : Type 0} (x : X) → None ≡ Some x → ⊥
none_some x e = cc

pub some_same : {X : Type 0} (x y : X) → Some x ≡ Some y → x ≡ y
some_same x y e = cc

pub found-in : {T : Type 0} (place : ℕ) (it : PendingWait T) (xs : List (Entry (PendingWait T))) →
    found_in place xs ≡ Some it → IsIn (record { place = place; item = it }) xs
found-in place it [] is = absurd (none_some it is)
found-in place it (x ∷ xs) is =
    by_test (x.place == place)
    (λ here.
    let at : x.place ≡ place = equal x.place place here in
    let item : x.item ≡ it =
    some_same x.item it (sym (ap (λ b. cond b (Some x.item) (found_in place xs)) here) ∙ is) in
    inl (ap (λ p. record { place = p; item = it }) (sym at) ∙ ap (λ t. record { place = x.place; item = t }) (sym item)))
    (λ other.
    inr (found-in place it xs (sym (ap (λ b. cond b (Some x.item) (found_in place xs)) other) ∙ is)))

pub in-found : {T : Type 0} (w : Entry (PendingWait T)) (xs : List (Entry (PendingWait T))) → AreApart xs → IsIn w xs →
    found_in w.place xs ≡ Some w.item
in-found w [] apart there = absurd there
in-found w (x ∷ xs) apart there = ⊎_elim
    (λ (e : w ≡ x).
    subst (λ v. found_in v.place (x ∷ xs) ≡ Some v.item) (sym e)
    (ap (λ b. cond b (Some x.item) (found_in x.place xs)) (same x.place)))
    (λ (rest : IsIn w xs).
    let ne = each-in (λ other. other.place ≢ x.place) w xs apart.0 rest in
    ap (λ b. cond b (Some x.item) (found_in w.place xs)) (apart_test x.place w.place (λ e. ne (sym e)))
    ∙ in-found w xs apart.1 rest)
    there

pub in-numbered : {T : Type 0} (w : Entry (PendingWait T)) (xs : List (Entry (PendingWait T))) → Rises xs → IsIn w xs →
    numbered_in (number_of w) xs ≡ Some w.item
in-numbered w [] rises there = absurd there
in-numbered w (x ∷ xs) rises there = ⊎_elim
    (λ (e : w ≡ x).
    subst (λ v. numbered_in (number_of v) (x ∷ xs) ≡ Some v.item) (sym e)
    (ap (λ b. cond b (Some x.item) (numbered_in (number_of x) xs)) (same (number_of x))))
    (λ (rest : IsIn w xs).
    let less = each-in (λ other. number_of x < number_of other) w xs rises.0 rest in
    let ne : number_of x ≢ number_of w = λ e. omega (arith, less, e) in
    ap (λ b. cond b (Some x.item) (numbered_in (number_of w) xs)) (apart_test (number_of x) (number_of w) ne)
    ∙ in-numbered w xs rises.1 rest)
    there

pub in-put : {T : Type 0} (w : Entry (PendingWait T)) (xs : List (Entry (PendingWait T))) → IsIn w (put w xs)
in-put w [] = inl refl
in-put w (x ∷ xs) =
    by_test (nat_lt (number_of x) (number_of w))
    (λ less.
    subst (IsIn w) (sym (ap (λ b. if b then x ∷ put w xs else w ∷ x ∷ xs) less)) (inr (in-put w xs)))
    (λ more. subst (IsIn w) (sym (ap (λ b. if b then x ∷ put w xs else w ∷ x ∷ xs) more)) (inl refl))

in-put_behind : {T : Type 0} (v w : Entry (PendingWait T)) (xs : List (Entry (PendingWait T))) → IsIn v xs →
    IsIn v (put w xs)
in-put_behind v w [] there = absurd there
in-put_behind v w (x ∷ xs) there =
    by_test (nat_lt (number_of x) (number_of w))
    (λ less.
    subst (IsIn v) (sym (ap (λ b. if b then x ∷ put w xs else w ∷ x ∷ xs) less))
    (⊎_elim (λ (e : v ≡ x). inl e) (λ (rest : IsIn v xs). inr (in-put_behind v w xs rest)) there))
    (λ more.
    subst (IsIn v) (sym (ap (λ b. if b then x ∷ put w xs else w ∷ x ∷ xs) more)) (inr there))

in-put_all : {T : Type 0} (v : Entry (PendingWait T)) (q base : List (Entry (PendingWait T))) → IsIn v base →
    IsIn v (put_all q base)
in-put_all v [] base there = there
in-put_all v (x ∷ q) base there = in-put_behind v x (put_all q base) (in-put_all v q base there)

in-put_all_first : {T : Type 0} (v : Entry (PendingWait T)) (q base : List (Entry (PendingWait T))) → IsIn v q →
    IsIn v (put_all q base)
in-put_all_first v [] base there = absurd there
in-put_all_first v (x ∷ q) base there = ⊎_elim
    (λ (e : v ≡ x). subst (λ u. IsIn u (put x (put_all q base))) (sym e) (in-put x (put_all q base)))
    (λ (rest : IsIn v q). in-put_behind v x (put_all q base) (in-put_all_first v q base rest))
    there

-- what is in a queue is one of all
pub in-queue : {T : Type 0} (w : Entry (PendingWait T)) (qs : List (List (Entry (PendingWait T)))) (k : ℕ) →
    IsIn w (get_or qs k []) → IsIn w (in_order qs)
in-queue w [] k there = there
in-queue w (q ∷ qs) zero there = in-put_all_first w q (in_order qs) there
in-queue w (q ∷ qs) (suc k) there = in-put_all w q (in_order qs) (in-queue w qs k there)

found-put_other : {T : Type 0} (place : ℕ) (x : Entry (PendingWait T)) (xs : List (Entry (PendingWait T))) →
    (x.place == place) ≡ false → found_in place (put x xs) ≡ found_in place xs
found-put_other place x [] other = ap (λ b. cond b (Some x.item) None) other
found-put_other place x (y ∷ xs) other =
    by_test (nat_lt (number_of y) (number_of x))
    (λ less.
    ap (λ b. found_in place (if b then y ∷ put x xs else x ∷ y ∷ xs)) less
    ∙ ap (λ o. cond (y.place == place) (Some y.item) o) (found-put_other place x xs other))
    (λ more.
    ap (λ b. found_in place (if b then y ∷ put x xs else x ∷ y ∷ xs)) more
    ∙ ap (λ b. cond b (Some x.item) (found_in place (y ∷ xs))) other)

found-put_all : {T : Type 0} (place : ℕ) (q base : List (Entry (PendingWait T))) → AreApart (put_all q base) →
    found_in place (put_all q base) ≡ first_of (found_in place q) (found_in place base)
found-put_all place [] base apart = refl
found-put_all place (x ∷ q) base apart =
    by_test (x.place == place)
    (λ here.
    subst (λ p. found_in p (put x (put_all q base)) ≡ Some x.item) (equal x.place place here)
    (in-found x (put x (put_all q base)) apart (in-put x (put_all q base)))
    ∙ sym (ap (λ b. first_of (cond b (Some x.item) (found_in place q)) (found_in place base)) here))
    (λ other.
    found-put_other place x (put_all q base) other
    ∙ found-put_all place q base (put-apart x (put_all q base) apart).1
    ∙ sym (ap (λ b. first_of (cond b (Some x.item) (found_in place q)) (found_in place base)) other))

-- what is at a place among all is what is there in the queues
pub found-in_order : {T : Type 0} (place : ℕ) (qs : List (List (Entry (PendingWait T)))) → AreApart (in_order qs) →
    found_in place (in_order qs) ≡ found place qs
found-in_order place [] apart = refl
found-in_order place (q ∷ qs) apart =
    found-put_all place q (in_order qs) apart
    ∙ ap (first_of (found_in place q)) (found-in_order place qs (put_all-apart q (in_order qs) apart))

pub none-found : {T : Type 0} (place : ℕ) (xs : List (Entry (PendingWait T))) → found_in place xs ≡ None →
    Each (λ x. x.place ≢ place) xs
none-found place [] is = tt
none-found place (x ∷ xs) is =
    by_test (x.place == place)
    (λ here.
    absurd (none_some x.item (sym is ∙ ap (λ b. cond b (Some x.item) (found_in place xs)) here)))
    (λ other. (
      λ e. absurd (true≢false (sym (subst (λ p. (x.place == p) ≡ true) e (same x.place)) ∙ other)),
      none-found place xs (sym (ap (λ b. cond b (Some x.item) (found_in place xs)) other) ∙ is),
    ))

-- it isn't at this place
abbrev pub is_else : {T : Type 0} → ℕ → Entry (PendingWait T) → Bool
is_else place x = not (x.place == place)

pub others-are : {T : Type 0} (place : ℕ) (q : List (Entry (PendingWait T))) → others place q ≡ filter (is_else place) q
others-are place [] = refl
others-are place (x ∷ q) =
    by_test (x.place == place)
    (λ here.
    ap (λ b. cond b (others place q) (x ∷ others place q)) here ∙ others-are place q
    ∙ sym (ap (λ b. cond (not b) (x ∷ filter (is_else place) q) (filter (is_else place) q)) here))
    (λ other.
    ap (λ b. cond b (others place q) (x ∷ others place q)) other ∙ ap (λ l. x ∷ l) (others-are place q)
    ∙ sym (ap (λ b. cond (not b) (x ∷ filter (is_else place) q) (filter (is_else place) q)) other))

both_else : {T : Type 0} (w x : Entry (PendingWait T)) → x.place ≢ w.place → number_of x ≢ number_of w →
    is_else w.place x ≡ is_other (number_of w) x
both_else w x places numbers =
    ap not (apart_test x.place w.place places) ∙ sym (ap not (apart_test (number_of x) (number_of w) numbers))

-- only it is at its place, and only it has its number
same_else : {T : Type 0} (w : Entry (PendingWait T)) (xs : List (Entry (PendingWait T))) → AreApart xs → Rises xs →
    IsIn w xs → Each (λ x. is_else w.place x ≡ is_other (number_of w) x) xs
same_else w [] apart rises there = absurd there
same_else w (x ∷ xs) apart rises there = ⊎_elim
    (λ (e : w ≡ x).
    subst (λ v. Each (λ y. is_else v.place y ≡ is_other (number_of v) y) (x ∷ xs)) (sym e) (
      ap not (same x.place) ∙ sym (ap not (same (number_of x))),
      each-both (λ y. y.place ≢ x.place) (λ y. number_of x < number_of y)
          (λ y. is_else x.place y ≡ is_other (number_of x) y) xs
          (λ y ne less. both_else x y ne (λ e. omega (arith, less, e))) apart.0 rises.0,
    ))
    (λ (rest : IsIn w xs).
    let ne = each-in (λ y. y.place ≢ x.place) w xs apart.0 rest in
    let less = each-in (λ y. number_of x < number_of y) w xs rises.0 rest in
    (both_else w x (λ e. ne (sym e)) (λ e. omega (arith, less, e)), same_else w xs apart.1 rises.1 rest))
    there

pub filter-place : {T : Type 0} (w : Entry (PendingWait T)) (xs : List (Entry (PendingWait T))) → AreApart xs →
    Rises xs → IsIn w xs → filter (is_else w.place) xs ≡ filter (is_other (number_of w)) xs
filter-place w xs apart rises there =
    filter-same (is_else w.place) (is_other (number_of w)) xs (same_else w xs apart rises there)

-- what else is at its place waits for its timer
pub place_on : {T : Type 0} (w : Entry (PendingWait T)) (xs : List (Entry (PendingWait T))) → AreApart xs → IsIn w xs →
    Each (λ x. x.place ≡ w.place → x.item.timer.place ≡ w.item.timer.place) xs
place_on w [] apart there = absurd there
place_on w (x ∷ xs) apart there = ⊎_elim
    (λ (e : w ≡ x).
    subst (λ v. Each (λ y. y.place ≡ v.place → y.item.timer.place ≡ v.item.timer.place) (x ∷ xs)) (sym e) (
      λ at. refl,
      each-weaker (λ y. y.place ≢ x.place) (λ y. y.place ≡ x.place → y.item.timer.place ≡ x.item.timer.place) xs
          (λ y ne at. absurd (ne at)) apart.0,
    ))
    (λ (rest : IsIn w xs).
    (λ at. absurd (each-in (λ y. y.place ≢ x.place) w xs apart.0 rest (sym at)), place_on w xs apart.1 rest))
    there

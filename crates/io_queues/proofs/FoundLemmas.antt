-- What is at a place, and what has a number.
use Rattle.std.proofs.Common.{◌≡◌, ◌≢◌, ℕ, zero, suc, ◌<◌, Bool, true, false, not, cond, List, [], ◌∷◌, get_or, ap, sym, refl, subst, ◌∙◌, ⊎_elim, inl, inr, arith}
use Rattle.std.specs.Prelude.{◌==◌, ◌⊎◌, nat_lt, filter, Some, None, if◌then◌else◌}
use Rattle.std.proofs.lemmas.Bool.{true≢false}
use Rattle.std.proofs.lemmas.Bool.Decides.{nat_tests}
use Rattle.io_rules.proofs.StrandLemmas.{by_test}
use Rattle.io_rules.proofs.TotalLemmas.{equal, same}
use Rattle.io_queues.specs.Ordered.{AreApart, Each, Rises, in_order, is_other, numbered_in, put, put_all}
use Rattle.io_queues.specs.Queued.{Entry, first_of, found, found_in, others}
use Rattle.io_queues.proofs.OrderLemmas.{each-both, each-weaker, filter-same, put-apart, put_all-apart}

pub apart_test : (a b : ℕ) → a ≢ b → (a == b) ≡ false
apart_test a b ne = grind (arith, nat_tests)

-- it is one of them
abbrev pub IsIn : {X : Type 0} → Entry X → List (Entry X) → Type 0
IsIn w [] = ⊥
IsIn w (x ∷ xs) = (w ≡ x) ⊎ IsIn w xs

pub each-in : {X : Type 0} (P : Entry X → Type 0) (w : Entry X)
    (xs : List (Entry X)) → Each P xs → IsIn w xs → P w
each-in P w [] all there = absurd there
each-in P w (x ∷ xs) all there =
    ⊎_elim (λ (e : w ≡ x). subst P (sym e) all.0) (λ (rest : IsIn w xs). each-in P w xs all.1 rest) there

pub none_some : {X : Type 0} (x : X) → None ≡ Some x → ⊥
none_some x e = cc

pub some_same : {X : Type 0} (x y : X) → Some x ≡ Some y → x ≡ y
some_same x y e = cc

pub found-in : {X : Type 0} (place : ℕ) (it : X) (xs : List (Entry X)) →
    found_in place xs ≡ Some it → IsIn (record { place = place; item = it }) xs
found-in place it [] is = absurd (none_some it is)
found-in place it (x ∷ xs) is =
    by_test (x.place == place)
    (λ here.
    let at : x.place ≡ place = equal x.place place here in
    let item : x.item ≡ it =
    some_same x.item it (sym (ap (λ b. cond b (Some x.item) (found_in place xs)) here) ∙ is) in
    inl (ap (λ p. record { place = p; item = it }) (sym at) ∙ ap (λ t. record { place = x.place; item = t }) (sym item)))
    (λ other.
    inr (found-in place it xs (sym (ap (λ b. cond b (Some x.item) (found_in place xs)) other) ∙ is)))

pub in-found : {X : Type 0} (w : Entry X) (xs : List (Entry X)) → AreApart xs → IsIn w xs →
    found_in w.place xs ≡ Some w.item
in-found w [] apart there = absurd there
in-found w (x ∷ xs) apart there = ⊎_elim
    (λ (e : w ≡ x).
    subst (λ v. found_in v.place (x ∷ xs) ≡ Some v.item) (sym e)
    (ap (λ b. cond b (Some x.item) (found_in x.place xs)) (same x.place)))
    (λ (rest : IsIn w xs).
    let ne = each-in (λ other. other.place ≢ x.place) w xs apart.0 rest in
    ap (λ b. cond b (Some x.item) (found_in w.place xs)) (apart_test x.place w.place (λ e. ne (sym e)))
    ∙ in-found w xs apart.1 rest)
    there

pub none-found : {X : Type 0} (place : ℕ) (xs : List (Entry X)) → found_in place xs ≡ None →
    Each (λ x. x.place ≢ place) xs
none-found place [] is = tt
none-found place (x ∷ xs) is =
    by_test (x.place == place)
    (λ here.
    absurd (none_some x.item (sym is ∙ ap (λ b. cond b (Some x.item) (found_in place xs)) here)))
    (λ other. (
      λ e. absurd (true≢false (sym (subst (λ p. (x.place == p) ≡ true) e (same x.place)) ∙ other)),
      none-found place xs (sym (ap (λ b. cond b (Some x.item) (found_in place xs)) other) ∙ is),
    ))

-- it isn't at this place
abbrev pub is_else : {X : Type 0} → ℕ → Entry X → Bool
is_else place x = not (x.place == place)

pub others-are : {X : Type 0} (place : ℕ) (q : List (Entry X)) → others place q ≡ filter (is_else place) q
others-are place [] = refl
others-are place (x ∷ q) =
    by_test (x.place == place)
    (λ here.
    ap (λ b. cond b (others place q) (x ∷ others place q)) here ∙ others-are place q
    ∙ sym (ap (λ b. cond (not b) (x ∷ filter (is_else place) q) (filter (is_else place) q)) here))
    (λ other.
    ap (λ b. cond b (others place q) (x ∷ others place q)) other ∙ ap (λ l. x ∷ l) (others-are place q)
    ∙ sym (ap (λ b. cond (not b) (x ∷ filter (is_else place) q) (filter (is_else place) q)) other))

-- only it is at its place
pub place_only : {X : Type 0} (w : Entry X) (xs : List (Entry X)) → AreApart xs → IsIn w xs →
    Each (λ x. x.place ≡ w.place → x ≡ w) xs
place_only w [] apart there = absurd there
place_only w (x ∷ xs) apart there = ⊎_elim
    (λ (e : w ≡ x).
    subst (λ v. Each (λ y. y.place ≡ v.place → y ≡ v) (x ∷ xs)) (sym e) (
      λ at. refl,
      each-weaker (λ y. y.place ≢ x.place) (λ y. y.place ≡ x.place → y ≡ x) xs (λ y ne at. absurd (ne at)) apart.0,
    ))
    (λ (rest : IsIn w xs).
    (λ at. absurd (each-in (λ y. y.place ≢ x.place) w xs apart.0 rest (sym at)), place_only w xs apart.1 rest))
    there

module _ {X : Type 0} (number : X → ℕ) where
  pub in-numbered : (w : Entry X) (xs : List (Entry X)) → Rises number xs → IsIn w xs →
      numbered_in number (number w.item) xs ≡ Some w.item
  in-numbered w [] rises there = absurd there
  in-numbered w (x ∷ xs) rises there = ⊎_elim
      (λ (e : w ≡ x).
      subst (λ v. numbered_in number (number v.item) (x ∷ xs) ≡ Some v.item) (sym e)
      (ap (λ b. cond b (Some x.item) (numbered_in number (number x.item) xs)) (same (number x.item))))
      (λ (rest : IsIn w xs).
      let less = each-in (λ other. number x.item < number other.item) w xs rises.0 rest in
      let ne : number x.item ≢ number w.item = λ e. omega (arith, less, e) in
      ap (λ b. cond b (Some x.item) (numbered_in number (number w.item) xs)) (apart_test (number x.item) (number w.item) ne)
      ∙ in-numbered w xs rises.1 rest)
      there

  pub in-put : (w : Entry X) (xs : List (Entry X)) → IsIn w (put number w xs)
  in-put w [] = inl refl
  in-put w (x ∷ xs) =
      by_test (nat_lt (number x.item) (number w.item))
      (λ less.
      subst (IsIn w) (sym (ap (λ b. if b then x ∷ put number w xs else w ∷ x ∷ xs) less)) (inr (in-put w xs)))
      (λ more. subst (IsIn w) (sym (ap (λ b. if b then x ∷ put number w xs else w ∷ x ∷ xs) more)) (inl refl))

  in-put_behind : (v w : Entry X) (xs : List (Entry X)) → IsIn v xs →
      IsIn v (put number w xs)
  in-put_behind v w [] there = absurd there
  in-put_behind v w (x ∷ xs) there =
      by_test (nat_lt (number x.item) (number w.item))
      (λ less.
      subst (IsIn v) (sym (ap (λ b. if b then x ∷ put number w xs else w ∷ x ∷ xs) less))
      (⊎_elim (λ (e : v ≡ x). inl e) (λ (rest : IsIn v xs). inr (in-put_behind v w xs rest)) there))
      (λ more.
      subst (IsIn v) (sym (ap (λ b. if b then x ∷ put number w xs else w ∷ x ∷ xs) more)) (inr there))

  in-put_all : (v : Entry X) (q base : List (Entry X)) → IsIn v base →
      IsIn v (put_all number q base)
  in-put_all v [] base there = there
  in-put_all v (x ∷ q) base there = in-put_behind v x (put_all number q base) (in-put_all v q base there)

  in-put_all_first : (v : Entry X) (q base : List (Entry X)) → IsIn v q →
      IsIn v (put_all number q base)
  in-put_all_first v [] base there = absurd there
  in-put_all_first v (x ∷ q) base there = ⊎_elim
      (λ (e : v ≡ x). subst (λ u. IsIn u (put number x (put_all number q base))) (sym e) (in-put x (put_all number q base)))
      (λ (rest : IsIn v q). in-put_behind v x (put_all number q base) (in-put_all_first v q base rest))
      there

  -- what is in a queue is one of all
  pub in-queue : (w : Entry X) (qs : List (List (Entry X))) (k : ℕ) →
      IsIn w (get_or qs k []) → IsIn w (in_order number qs)
  in-queue w [] k there = there
  in-queue w (q ∷ qs) zero there = in-put_all_first w q (in_order number qs) there
  in-queue w (q ∷ qs) (suc k) there = in-put_all w q (in_order number qs) (in-queue w qs k there)

  found-put_other : (place : ℕ) (x : Entry X) (xs : List (Entry X)) →
      (x.place == place) ≡ false → found_in place (put number x xs) ≡ found_in place xs
  found-put_other place x [] other = ap (λ b. cond b (Some x.item) None) other
  found-put_other place x (y ∷ xs) other =
      by_test (nat_lt (number y.item) (number x.item))
      (λ less.
      ap (λ b. found_in place (if b then y ∷ put number x xs else x ∷ y ∷ xs)) less
      ∙ ap (λ o. cond (y.place == place) (Some y.item) o) (found-put_other place x xs other))
      (λ more.
      ap (λ b. found_in place (if b then y ∷ put number x xs else x ∷ y ∷ xs)) more
      ∙ ap (λ b. cond b (Some x.item) (found_in place (y ∷ xs))) other)

  found-put_all : (place : ℕ) (q base : List (Entry X)) → AreApart (put_all number q base) →
      found_in place (put_all number q base) ≡ first_of (found_in place q) (found_in place base)
  found-put_all place [] base apart = refl
  found-put_all place (x ∷ q) base apart =
      by_test (x.place == place)
      (λ here.
      subst (λ p. found_in p (put number x (put_all number q base)) ≡ Some x.item) (equal x.place place here)
      (in-found x (put number x (put_all number q base)) apart (in-put x (put_all number q base)))
      ∙ sym (ap (λ b. first_of (cond b (Some x.item) (found_in place q)) (found_in place base)) here))
      (λ other.
      found-put_other place x (put_all number q base) other
      ∙ found-put_all place q base (put-apart number x (put_all number q base) apart).1
      ∙ sym (ap (λ b. first_of (cond b (Some x.item) (found_in place q)) (found_in place base)) other))

  -- what is at a place among all is what is there in the queues
  pub found-in_order : (place : ℕ) (qs : List (List (Entry X))) → AreApart (in_order number qs) →
      found_in place (in_order number qs) ≡ found place qs
  found-in_order place [] apart = refl
  found-in_order place (q ∷ qs) apart =
      found-put_all place q (in_order number qs) apart
      ∙ ap (first_of (found_in place q)) (found-in_order place qs (put_all-apart number q (in_order number qs) apart))

  both_else : (w x : Entry X) → x.place ≢ w.place → number x.item ≢ number w.item →
      is_else w.place x ≡ is_other number (number w.item) x
  both_else w x places numbers =
      ap not (apart_test x.place w.place places) ∙ sym (ap not (apart_test (number x.item) (number w.item) numbers))

  -- only it is at its place, and only it has its number
  pub same_else : (w : Entry X) (xs : List (Entry X)) → AreApart xs → Rises number xs →
      IsIn w xs → Each (λ x. is_else w.place x ≡ is_other number (number w.item) x) xs
  same_else w [] apart rises there = absurd there
  same_else w (x ∷ xs) apart rises there = ⊎_elim
      (λ (e : w ≡ x).
      subst (λ v. Each (λ y. is_else v.place y ≡ is_other number (number v.item) y) (x ∷ xs)) (sym e) (
        ap not (same x.place) ∙ sym (ap not (same (number x.item))),
        each-both (λ y. y.place ≢ x.place) (λ y. number x.item < number y.item)
            (λ y. is_else x.place y ≡ is_other number (number x.item) y) xs
            (λ y ne less. both_else x y ne (λ e. omega (arith, less, e))) apart.0 rises.0,
      ))
      (λ (rest : IsIn w xs).
      let ne = each-in (λ y. y.place ≢ x.place) w xs apart.0 rest in
      let less = each-in (λ y. number x.item < number y.item) w xs rises.0 rest in
      (both_else w x (λ e. ne (sym e)) (λ e. omega (arith, less, e)), same_else w xs apart.1 rises.1 rest))
      there

  pub filter-place : (w : Entry X) (xs : List (Entry X)) → AreApart xs →
      Rises number xs → IsIn w xs → filter (is_else w.place) xs ≡ filter (is_other number (number w.item)) xs
  filter-place w xs apart rises there =
      filter-same (is_else w.place) (is_other number (number w.item)) xs (same_else w xs apart rises there)

-- What stands in many queues by rising number: what one more at the end of a queue makes of them, and what a filter does.
use Rattle.std.proofs.Common.{◌≡◌, ◌≢◌, ℕ, zero, suc, ◌<◌, ◌≤◌, Bool, true, false, List, [], ◌∷◌, ◌++◌, length, get_or, set, ap, sym, refl, subst, ◌∙◌, arith}
use Rattle.std.specs.Prelude.{nat_lt, filter, map}
use Rattle.std.proofs.lemmas.Bool.{le-ltb, lt-ltb, ltb-false}
use Rattle.io_rules.proofs.StrandLemmas.{by_test}
use Rattle.io_queues.specs.Ordered.{AreApart, Each, Rises, in_order, put, put_all}
use Rattle.io_queues.specs.Queued.{Entry}

-- ---- what holds of each

pub each-weaker : {X : Type 0} (P Q : X → Type 0) (xs : List X) → ((x : X) → P x → Q x) → Each P xs → Each Q xs
each-weaker P Q [] to all = tt
each-weaker P Q (x ∷ xs) to all = (to x all.0, each-weaker P Q xs to all.1)

pub each-both : {X : Type 0} (P Q R : X → Type 0) (xs : List X) → ((x : X) → P x → Q x → R x) → Each P xs → Each Q xs →
    Each R xs
each-both P Q R [] to all more = tt
each-both P Q R (x ∷ xs) to all more = (to x all.0 more.0, each-both P Q R xs to all.1 more.1)

pub each-push : {X : Type 0} (P : X → Type 0) (xs : List X) (y : X) → Each P xs → P y → Each P (xs ++ y ∷ [])
each-push P [] y all is = (is, tt)
each-push P (x ∷ xs) y all is = (all.0, each-push P xs y all.1 is)

filter-yes : {X : Type 0} (p : X → Bool) (x : X) (xs : List X) → p x ≡ true → filter p (x ∷ xs) ≡ x ∷ filter p xs
filter-yes p x xs is = rw is refl

filter-no : {X : Type 0} (p : X → Bool) (x : X) (xs : List X) → p x ≡ false → filter p (x ∷ xs) ≡ filter p xs
filter-no p x xs is = rw is refl

pub each-filter : {X : Type 0} (P : X → Type 0) (p : X → Bool) (xs : List X) → Each P xs → Each P (filter p xs)
each-filter P p [] all = tt
each-filter P p (x ∷ xs) all =
    by_test (p x)
    (λ is. subst (Each P) (sym (filter-yes p x xs is)) (all.0, each-filter P p xs all.1))
    (λ is. subst (Each P) (sym (filter-no p x xs is)) (each-filter P p xs all.1))

-- two tests that agree on each
pub filter-same : {X : Type 0} (p q : X → Bool) (xs : List X) → Each (λ x. p x ≡ q x) xs → filter p xs ≡ filter q xs
filter-same p q [] all = refl
filter-same p q (x ∷ xs) all =
    by_test (q x)
    (λ is. filter-yes p x xs (all.0 ∙ is) ∙ ap (λ l. x ∷ l) (filter-same p q xs all.1) ∙ sym (filter-yes q x xs is))
    (λ is. filter-no p x xs (all.0 ∙ is) ∙ filter-same p q xs all.1 ∙ sym (filter-no q x xs is))

pub filter-all : {X : Type 0} (p : X → Bool) (xs : List X) → Each (λ x. p x ≡ true) xs → filter p xs ≡ xs
filter-all p [] all = refl
filter-all p (x ∷ xs) all = filter-yes p x xs all.0 ∙ ap (λ l. x ∷ l) (filter-all p xs all.1)

pub filter-none : {X : Type 0} (p : X → Bool) (xs : List X) → Each (λ x. p x ≡ false) xs → filter p xs ≡ []
filter-none p [] all = refl
filter-none p (x ∷ xs) all = filter-no p x xs all.0 ∙ filter-none p xs all.1

pub apart-filter : {X : Type 0} (p : Entry X → Bool) (xs : List (Entry X)) → AreApart xs →
    AreApart (filter p xs)
apart-filter p [] apart = tt
apart-filter p (x ∷ xs) apart =
    by_test (p x)
    (λ is. subst AreApart (sym (filter-yes p x xs is))
    (each-filter (λ other. other.place ≢ x.place) p xs apart.0, apart-filter p xs apart.1))
    (λ is. subst AreApart (sym (filter-no p x xs is)) (apart-filter p xs apart.1))

pub apart-push : {X : Type 0} (xs : List (Entry X)) (w : Entry X) → AreApart xs →
    Each (λ other. other.place ≢ w.place) xs → AreApart (xs ++ w ∷ [])
apart-push [] w apart all = (tt, tt)
apart-push (x ∷ xs) w apart all = (
  each-push (λ other. other.place ≢ x.place) xs w apart.0 (λ same. all.0 (sym same)),
  apart-push xs w apart.1 all.1,
)

module _ {X : Type 0} (number : X → ℕ) where
  put-before : (w x : Entry X) (xs : List (Entry X)) →
      nat_lt (number x.item) (number w.item) ≡ true → put number w (x ∷ xs) ≡ x ∷ put number w xs
  put-before w x xs is = rw is refl

  put-after : (w x : Entry X) (xs : List (Entry X)) →
      nat_lt (number x.item) (number w.item) ≡ false → put number w (x ∷ xs) ≡ w ∷ x ∷ xs
  put-after w x xs is = rw is refl

  pub each-put : (P : Entry X → Type 0) (w : Entry X)
      (xs : List (Entry X)) → P w → Each P xs → Each P (put number w xs)
  each-put P w [] is all = (is, tt)
  each-put P w (x ∷ xs) is all =
      by_test (nat_lt (number x.item) (number w.item))
      (λ less. subst (Each P) (sym (put-before w x xs less)) (all.0, each-put P w xs is all.1))
      (λ more. subst (Each P) (sym (put-after w x xs more)) (is, all))

  pub put-each : (P : Entry X → Type 0) (w : Entry X)
      (xs : List (Entry X)) → Each P (put number w xs) → P w × Each P xs
  put-each P w [] all = all
  put-each P w (x ∷ xs) all =
      by_test (nat_lt (number x.item) (number w.item))
      (λ less. let both : P x × Each P (put number w xs) = subst (Each P) (put-before w x xs less) all in
      let rest = put-each P w xs both.1 in (rest.0, (both.0, rest.1)))
      (λ more. subst (Each P) (put-after w x xs more) all)

  abbrev pub IsNotNumber : ℕ → Entry X → Type 0
  IsNotNumber n x = number x.item ≢ n

  pub put-rises : (w : Entry X) (xs : List (Entry X)) → Rises number (put number w xs) →
      Each (IsNotNumber (number w.item)) xs × Rises number xs
  put-rises w [] rises = (tt, tt)
  put-rises w (x ∷ xs) rises =
      by_test (nat_lt (number x.item) (number w.item))
      (λ is. let both : Rises number (x ∷ put number w xs) = subst (Rises number) (put-before w x xs is) rises in
      let less = put-each (λ other. number x.item < number other.item) w xs both.0 in
      let rest = put-rises w xs both.1 in
      let lt = less.0 in
      ((λ same. omega (arith, lt, same), rest.0), (less.1, rest.1)))
      (λ is. let both : Rises number (w ∷ x ∷ xs) = subst (Rises number) (put-after w x xs is) rises in
      let lt = both.0.0 in (
        (
          λ same. omega (arith, lt, same),
          each-weaker (λ other. number w.item < number other.item) (IsNotNumber (number w.item)) xs
              (λ other more same. omega (arith, more, same)) both.0.1,
        ),
        both.1,
      ))

  pub put-apart : (w : Entry X) (xs : List (Entry X)) → AreApart (put number w xs) →
      Each (λ other. other.place ≢ w.place) xs × AreApart xs
  put-apart w [] apart = (tt, tt)
  put-apart w (x ∷ xs) apart =
      by_test (nat_lt (number x.item) (number w.item))
      (λ is. let both : AreApart (x ∷ put number w xs) = subst AreApart (put-before w x xs is) apart in
      let others = put-each (λ other. other.place ≢ x.place) w xs both.0 in
      let rest = put-apart w xs both.1 in
      ((λ same. others.0 (sym same), rest.0), (others.1, rest.1)))
      (λ is. subst AreApart (put-after w x xs is) apart)

  -- none of them is below it
  pub put-first : (w : Entry X) (xs : List (Entry X)) →
      Each (λ other. number w.item ≤ number other.item) xs → put number w xs ≡ w ∷ xs
  put-first w [] all = refl
  put-first w (x ∷ xs) all = put-after w x xs (le-ltb (number x.item) (number w.item) all.0)

  -- all of them are
  put-last : (w : Entry X) (xs : List (Entry X)) →
      Each (λ other. number other.item < number w.item) xs → put number w xs ≡ xs ++ w ∷ []
  put-last w [] all = refl
  put-last w (x ∷ xs) all =
      put-before w x xs (lt-ltb (number x.item) (number w.item) all.0) ∙ ap (λ l. x ∷ l) (put-last w xs all.1)

  put-push : (x w : Entry X) (xs : List (Entry X)) → number x.item < number w.item →
      put number x (xs ++ w ∷ []) ≡ put number x xs ++ w ∷ []
  put-push x w [] less =
      let le : number x.item ≤ number w.item = omega (arith, less) in
      put-after x w [] (le-ltb (number w.item) (number x.item) le)
  put-push x w (y ∷ xs) less =
      by_test (nat_lt (number y.item) (number x.item))
      (λ is. put-before x y (xs ++ w ∷ []) is ∙ ap (λ l. y ∷ l) (put-push x w xs less)
      ∙ sym (ap (λ l. l ++ w ∷ []) (put-before x y xs is)))
      (λ is. put-after x y (xs ++ w ∷ []) is ∙ sym (ap (λ l. l ++ w ∷ []) (put-after x y xs is)))

  pub each-put_all : (P : Entry X → Type 0) (q base : List (Entry X)) → Each P q →
      Each P base → Each P (put_all number q base)
  each-put_all P [] base all more = more
  each-put_all P (x ∷ q) base all more = each-put P x (put_all number q base) all.0 (each-put_all P q base all.1 more)

  pub put_all-each : (P : Entry X → Type 0) (q base : List (Entry X)) →
      Each P (put_all number q base) → Each P q × Each P base
  put_all-each P [] base all = (tt, all)
  put_all-each P (x ∷ q) base all =
      let both = put-each P x (put_all number q base) all in
      let rest = put_all-each P q base both.1 in ((both.0, rest.0), rest.1)

  pub each-in_order : (P : Entry X → Type 0) (qs : List (List (Entry X))) →
      ((k : ℕ) → Each P (get_or qs k [])) → Each P (in_order number qs)
  each-in_order P [] all = tt
  each-in_order P (q ∷ qs) all = each-put_all P q (in_order number qs) (all 0) (each-in_order P qs (λ k. all (suc k)))

  pub in_order-each : (P : Entry X → Type 0) (qs : List (List (Entry X))) (k : ℕ) →
      Each P (in_order number qs) → Each P (get_or qs k [])
  in_order-each P [] k all = tt
  in_order-each P (q ∷ qs) zero all = (put_all-each P q (in_order number qs) all).0
  in_order-each P (q ∷ qs) (suc k) all = in_order-each P qs k (put_all-each P q (in_order number qs) all).1

  put_all-rises : (q base : List (Entry X)) → Rises number (put_all number q base) → Rises number base
  put_all-rises [] base rises = rises
  put_all-rises (x ∷ q) base rises = put_all-rises q base (put-rises x (put_all number q base) rises).1

  pub put_all-apart : (q base : List (Entry X)) → AreApart (put_all number q base) → AreApart base
  put_all-apart [] base apart = apart
  put_all-apart (x ∷ q) base apart = put_all-apart q base (put-apart x (put_all number q base) apart).1

  push_here : (w : Entry X) (q base : List (Entry X)) →
      Each (λ other. number other.item < number w.item) (put_all number q base) → put_all number (q ++ w ∷ []) base ≡ put_all number q base ++ w ∷ []
  push_here w [] base all = put-last w base all
  push_here w (x ∷ q) base all =
      let both = put-each (λ other. number other.item < number w.item) x (put_all number q base) all in
      ap (put number x) (push_here w q base both.1) ∙ put-push x w (put_all number q base) both.0

  push_behind : (w : Entry X) (q base : List (Entry X)) →
      Each (λ other. number other.item < number w.item) q → put_all number q (base ++ w ∷ []) ≡ put_all number q base ++ w ∷ []
  push_behind w [] base all = refl
  push_behind w (x ∷ q) base all =
      ap (put number x) (push_behind w q base all.1) ∙ put-push x w (put_all number q base) all.0

  -- one of a greater number at the end of a queue stands last
  pub in_order-push : (w : Entry X) (qs : List (List (Entry X))) (k : ℕ) → k < length qs →
      Each (λ other. number other.item < number w.item) (in_order number qs) →
      in_order number (set qs k (get_or qs k [] ++ w ∷ [])) ≡ in_order number qs ++ w ∷ []
  in_order-push w [] k within all = absurd (omega arith)
  in_order-push w (q ∷ qs) zero within all = push_here w q (in_order number qs) all
  in_order-push w (q ∷ qs) (suc k) within all =
      let both = put_all-each (λ other. number other.item < number w.item) q (in_order number qs) all in
      ap (put_all number q) (in_order-push w qs k (omega (arith, within)) both.1) ∙ push_behind w q (in_order number qs) both.0

  filter-put_out : (p : Entry X → Bool) (w : Entry X)
      (xs : List (Entry X)) → p w ≡ false → filter p (put number w xs) ≡ filter p xs
  filter-put_out p w [] out = filter-no p w [] out
  filter-put_out p w (x ∷ xs) out =
      by_test (nat_lt (number x.item) (number w.item))
      (λ is. by_test (p x)
      (λ passes. ap (filter p) (put-before w x xs is) ∙ filter-yes p x (put number w xs) passes
      ∙ ap (λ l. x ∷ l) (filter-put_out p w xs out) ∙ sym (filter-yes p x xs passes))
      (λ fails. ap (filter p) (put-before w x xs is) ∙ filter-no p x (put number w xs) fails
      ∙ filter-put_out p w xs out ∙ sym (filter-no p x xs fails)))
      (λ is. ap (filter p) (put-after w x xs is) ∙ filter-no p w (x ∷ xs) out)

  not_below : (w x : Entry X) (xs : List (Entry X)) → number w.item ≤ number x.item →
      Rises number (x ∷ xs) → Each (λ other. number w.item ≤ number other.item) (x ∷ xs)
  not_below w x xs le rises = (
    le,
    each-weaker (λ other. number x.item < number other.item) (λ other. number w.item ≤ number other.item) xs
        (λ other less. omega (arith, le, less)) rises.0,
  )

  filter-put_in : (p : Entry X → Bool) (w : Entry X)
      (xs : List (Entry X)) → p w ≡ true → Rises number xs → filter p (put number w xs) ≡ put number w (filter p xs)
  filter-put_in p w [] stays rises = filter-yes p w [] stays
  filter-put_in p w (x ∷ xs) stays rises =
      by_test (nat_lt (number x.item) (number w.item))
      (λ is. by_test (p x)
      (λ passes. ap (filter p) (put-before w x xs is) ∙ filter-yes p x (put number w xs) passes
      ∙ ap (λ l. x ∷ l) (filter-put_in p w xs stays rises.1) ∙ sym (put-before w x (filter p xs) is)
      ∙ ap (put number w) (sym (filter-yes p x xs passes)))
      (λ fails. ap (filter p) (put-before w x xs is) ∙ filter-no p x (put number w xs) fails
      ∙ filter-put_in p w xs stays rises.1 ∙ ap (put number w) (sym (filter-no p x xs fails))))
      (λ is. ap (filter p) (put-after w x xs is) ∙ filter-yes p w (x ∷ xs) stays
      ∙ sym (put-first w (filter p (x ∷ xs))
      (each-filter (λ other. number w.item ≤ number other.item) p (x ∷ xs)
      (not_below w x xs (ltb-false (number x.item) (number w.item) is) rises))))

  filter-put_all : (p : Entry X → Bool) (q base : List (Entry X)) →
      Rises number (put_all number q base) → filter p (put_all number q base) ≡ put_all number (filter p q) (filter p base)
  filter-put_all p [] base rises = refl
  filter-put_all p (x ∷ q) base rises =
      by_test (p x)
      (λ is. let rest = put-rises x (put_all number q base) rises in
      filter-put_in p x (put_all number q base) is rest.1 ∙ ap (put number x) (filter-put_all p q base rest.1)
      ∙ ap (λ l. put_all number l (filter p base)) (sym (filter-yes p x q is)))
      (λ is. let rest = put-rises x (put_all number q base) rises in
      filter-put_out p x (put_all number q base) is ∙ filter-put_all p q base rest.1
      ∙ ap (λ l. put_all number l (filter p base)) (sym (filter-no p x q is)))

  -- what passes in each queue is what passes in all
  pub filter-in_order : (p : Entry X → Bool) (f : List (Entry X) →
      List (Entry X)) → ((q : List (Entry X)) → f q ≡ filter p q) →
      (qs : List (List (Entry X))) → Rises number (in_order number qs) → in_order number (map f qs) ≡ filter p (in_order number qs)
  filter-in_order p f is [] rises = refl
  filter-in_order p f is (q ∷ qs) rises =
      ap (λ l. put_all number l (in_order number (map f qs))) (is q)
      ∙ ap (put_all number (filter p q)) (filter-in_order p f is qs (put_all-rises q (in_order number qs) rises))
      ∙ sym (filter-put_all p q (in_order number qs) rises)

  pub rises-filter : (p : Entry X → Bool) (xs : List (Entry X)) → Rises number xs →
      Rises number (filter p xs)
  rises-filter p [] rises = tt
  rises-filter p (x ∷ xs) rises =
      by_test (p x)
      (λ is. subst (Rises number) (sym (filter-yes p x xs is))
      (each-filter (λ other. number x.item < number other.item) p xs rises.0, rises-filter p xs rises.1))
      (λ is. subst (Rises number) (sym (filter-no p x xs is)) (rises-filter p xs rises.1))

  pub rises-push : (xs : List (Entry X)) (w : Entry X) → Rises number xs →
      Each (λ other. number other.item < number w.item) xs → Rises number (xs ++ w ∷ [])
  rises-push [] w rises all = (tt, tt)
  rises-push (x ∷ xs) w rises all =
      (each-push (λ other. number x.item < number other.item) xs w rises.0 all.0, rises-push xs w rises.1 all.1)

  put_all-sorted : (q : List (Entry X)) → Rises number q → put_all number q [] ≡ q
  put_all-sorted [] rises = refl
  put_all-sorted (x ∷ q) rises =
      ap (put number x) (put_all-sorted q rises.1)
      ∙ put-first x q
      (each-weaker (λ other. number x.item < number other.item) (λ other. number x.item ≤ number other.item) q
      (λ other less. omega (arith, less)) rises.0)

  -- a test that only a queue's waits pass gives this queue
  pub filter-queue : (p : Entry X → Bool) (qs : List (List (Entry X))) (k : ℕ) →
      Rises number (in_order number qs) → Rises number (get_or qs k []) → Each (λ x. p x ≡ true) (get_or qs k []) →
      ((j : ℕ) → j ≢ k → Each (λ x. p x ≡ false) (get_or qs j [])) → filter p (in_order number qs) ≡ get_or qs k []
  filter-queue p [] k rises own passes fails = refl
  filter-queue p (q ∷ qs) zero rises own passes fails =
      filter-put_all p q (in_order number qs) rises
      ∙ ap (λ l. put_all number l (filter p (in_order number qs))) (filter-all p q passes)
      ∙ ap (put_all number q) (filter-none p (in_order number qs)
      (each-in_order (λ x. p x ≡ false) qs (λ j. fails (suc j) (λ (e : suc j ≡ 0). omega (arith, e)))))
      ∙ put_all-sorted q own
  filter-queue p (q ∷ qs) (suc k) rises own passes fails =
      filter-put_all p q (in_order number qs) rises
      ∙ ap (λ l. put_all number l (filter p (in_order number qs))) (filter-none p q (fails 0 (λ (e : 0 ≡ suc k). omega (arith, e))))
      ∙ filter-queue p qs k (put_all-rises q (in_order number qs) rises) own passes
      (λ j other. fails (suc j) (λ (e : suc j ≡ suc k). other (omega (arith, e))))

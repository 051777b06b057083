-- Lists that are sorted by a key, where items of one key stand as they stood.
use Rattle.std.proofs.Common.{◌≡◌, ℕ, ◌<◌, ◌≤◌, nat_le, Bool, true, false, cond, List, [], ◌∷◌, ◌++◌, length, map, filter, suc, refl, ap, sym, ◌∙◌, arith}
use Rattle.std.specs.List.{All}
use Rattle.std.proofs.lemmas.List.Elements.{All-cons, All-filter, All-head, All-nil, All-tail, All-weaker}
use Rattle.std.proofs.lemmas.Bool.Decides.{nat_tests}
use Rattle.history_rules.specs.Settling.{put_by, sorted_by}

module _ {X : Type 0} (key : X → ℕ) where
  pub put_by-front : (x y : X) (ys : List X) → key x ≤ key y → put_by key x (y ∷ ys) ≡ x ∷ y ∷ ys
  put_by-front x y ys le = let test : nat_le (key x) (key y) ≡ true = grind (arith, nat_tests) in rw test refl

  pub put_by-later : (x y : X) (ys : List X) → key y < key x → put_by key x (y ∷ ys) ≡ y ∷ put_by key x ys
  put_by-later x y ys less = let test : nat_le (key x) (key y) ≡ false = grind (arith, nat_tests) in rw test refl

  -- an item goes before all others, or after all
  pub put_by-least : (x : X) (xs : List X) → All (λ y. key x ≤ key y) xs → put_by key x xs ≡ x ∷ xs
  put_by-least x [] all = refl
  put_by-least x (y ∷ ys) all = put_by-front x y ys (All-head (λ z. key x ≤ key z) y ys all)

  pub put_by-greatest : (x : X) (xs : List X) → All (λ y. key y < key x) xs → put_by key x xs ≡ xs ++ x ∷ []
  put_by-greatest x [] all = refl
  put_by-greatest x (y ∷ ys) all =
      put_by-later x y ys (All-head (λ z. key z < key x) y ys all)
      ∙ ap (λ zs. y ∷ zs) (put_by-greatest x ys (All-tail (λ z. key z < key x) y ys all))

  pick-push : (t : Bool) (a b c d : List X) (z : X) → a ≡ c ++ z ∷ [] → b ≡ d ++ z ∷ [] →
      cond t a b ≡ cond t c d ++ z ∷ []
  pick-push true a b c d z p q = p
  pick-push false a b c d z p q = q

  -- an item goes in before one at the end that isn't less
  pub put_by_push : (x z : X) (xs : List X) → key x ≤ key z → put_by key x (xs ++ z ∷ []) ≡ put_by key x xs ++ z ∷ []
  put_by_push x z [] le = put_by-front x z [] le
  put_by_push x z (y ∷ ys) le =
      pick-push (nat_le (key x) (key y)) (x ∷ y ∷ (ys ++ z ∷ [])) (y ∷ put_by key x (ys ++ z ∷ [])) (x ∷ y ∷ ys)
      (y ∷ put_by key x ys) z refl (ap (λ zs. y ∷ zs) (put_by_push x z ys le))

  All-pick : (P : X → Type 0) (t : Bool) (a b : List X) → All P a → All P b → All P (cond t a b)
  All-pick P true a b p q = p
  All-pick P false a b p q = q

  pub All-put_by : (P : X → Type 0) (x : X) (xs : List X) → P x → All P xs → All P (put_by key x xs)
  All-put_by P x [] one all = All-cons P x [] one all
  All-put_by P x (y ∷ ys) one all =
      All-pick P (nat_le (key x) (key y)) (x ∷ y ∷ ys) (y ∷ put_by key x ys) (All-cons P x (y ∷ ys) one all)
      (All-cons P y (put_by key x ys) (All-head P y ys all) (All-put_by P x ys one (All-tail P y ys all)))

  -- what is true of each item is true of each as they are sorted, and the other way round
  pub All-sorted_by : (P : X → Type 0) (xs : List X) → All P xs → All P (sorted_by key xs)
  All-sorted_by P [] all = all
  All-sorted_by P (x ∷ xs) all =
      All-put_by P x (sorted_by key xs) (All-head P x xs all) (All-sorted_by P xs (All-tail P x xs all))

  from-pick : (P : X → Type 0) (t : Bool) (x y : X) (ys rest : List X) → (All P rest → P x × All P ys) →
      All P (cond t (x ∷ y ∷ ys) (y ∷ rest)) → P x × All P (y ∷ ys)
  from-pick P true x y ys rest below all = (All-head P x (y ∷ ys) all, All-tail P x (y ∷ ys) all)
  from-pick P false x y ys rest below all =
      let both = below (All-tail P y rest all) in (both.0, All-cons P y ys (All-head P y rest all) both.1)

  from-put_by : (P : X → Type 0) (x : X) (xs : List X) → All P (put_by key x xs) → P x × All P xs
  from-put_by P x [] all = (All-head P x [] all, All-nil P)
  from-put_by P x (y ∷ ys) all = from-pick P (nat_le (key x) (key y)) x y ys (put_by key x ys) (from-put_by P x ys) all

  pub All-from_sorted_by : (P : X → Type 0) (xs : List X) → All P (sorted_by key xs) → All P xs
  All-from_sorted_by P [] all = all
  All-from_sorted_by P (x ∷ xs) all =
      let both = from-put_by P x (sorted_by key xs) all in All-cons P x xs both.0 (All-from_sorted_by P xs both.1)

  length-pick : (t : Bool) (a b : List X) (n : ℕ) → length a ≡ n → length b ≡ n → length (cond t a b) ≡ n
  length-pick true a b n p q = p
  length-pick false a b n p q = q

  length-put_by : (x : X) (xs : List X) → length (put_by key x xs) ≡ suc (length xs)
  length-put_by x [] = refl
  length-put_by x (y ∷ ys) =
      length-pick (nat_le (key x) (key y)) (x ∷ y ∷ ys) (y ∷ put_by key x ys) (suc (suc (length ys))) refl
      (ap suc (length-put_by x ys))

  pub length-sorted_by : (xs : List X) → length (sorted_by key xs) ≡ length xs
  length-sorted_by [] = refl
  length-sorted_by (x ∷ xs) = length-put_by x (sorted_by key xs) ∙ ap suc (length-sorted_by xs)

  -- no item is less than one before it
  abbrev IsRising : List X → Type 0
  IsRising [] = Unit {0}
  IsRising (x ∷ xs) = All (λ y. key x ≤ key y) xs × IsRising xs

  rising-step : (x y : X) (ys : List X) (t : Bool) → nat_le (key x) (key y) ≡ t → IsRising (y ∷ ys) →
      IsRising (put_by key x ys) → IsRising (cond t (x ∷ y ∷ ys) (y ∷ put_by key x ys))
  rising-step x y ys true e rising below =
      let le : key x ≤ key y = grind (arith, nat_tests) in (
        All-cons (λ z. key x ≤ key z) y ys le
            (All-weaker (λ z. key y ≤ key z) (λ z. key x ≤ key z) (λ z h. omega arith) ys rising.0),
        rising,
      )
  rising-step x y ys false e rising below =
      let le : key y ≤ key x = grind (arith, nat_tests) in
      (All-put_by (λ z. key y ≤ key z) x ys le rising.0, below)

  IsRising-put_by : (x : X) (xs : List X) → IsRising xs → IsRising (put_by key x xs)
  IsRising-put_by x [] rising = (All-nil (λ y. key x ≤ key y), tt)
  IsRising-put_by x (y ∷ ys) rising =
      rising-step x y ys (nat_le (key x) (key y)) refl rising (IsRising-put_by x ys rising.1)

  pub IsRising-sorted_by : (xs : List X) → IsRising (sorted_by key xs)
  IsRising-sorted_by [] = tt
  IsRising-sorted_by (x ∷ xs) = IsRising-put_by x (sorted_by key xs) (IsRising-sorted_by xs)

  module _ (test : X → Bool) where
    filter_yes : (x : X) (xs : List X) → test x ≡ true → filter test (x ∷ xs) ≡ x ∷ filter test xs
    filter_yes x xs e = rw e refl

    filter_no : (x : X) (xs : List X) → test x ≡ false → filter test (x ∷ xs) ≡ filter test xs
    filter_no x xs e = rw e refl

    -- an item that doesn't pass
    skip-step : (x y : X) (ys : List X) (t : Bool) → test x ≡ false → filter test (put_by key x ys) ≡ filter test ys →
        filter test (cond t (x ∷ y ∷ ys) (y ∷ put_by key x ys)) ≡ filter test (y ∷ ys)
    skip-step x y ys true e below = filter_no x (y ∷ ys) e
    skip-step x y ys false e below = ap (λ zs. cond (test y) (y ∷ zs) zs) below

    skip-put_by : (x : X) (xs : List X) → test x ≡ false → filter test (put_by key x xs) ≡ filter test xs
    skip-put_by x [] e = filter_no x [] e
    skip-put_by x (y ∷ ys) e = skip-step x y ys (nat_le (key x) (key y)) e (skip-put_by x ys e)

    -- an item that passes
    keep-behind : (x y : X) (ys : List X) (s : Bool) → key y < key x →
        cond s (y ∷ put_by key x (filter test ys)) (put_by key x (filter test ys))
        ≡ put_by key x (cond s (y ∷ filter test ys) (filter test ys))
    keep-behind x y ys true less = sym (put_by-later x y (filter test ys) less)
    keep-behind x y ys false less = refl

    keep-step : (x y : X) (ys : List X) (t : Bool) → nat_le (key x) (key y) ≡ t → test x ≡ true → IsRising (y ∷ ys) →
        filter test (put_by key x ys) ≡ put_by key x (filter test ys) →
        filter test (cond t (x ∷ y ∷ ys) (y ∷ put_by key x ys)) ≡ put_by key x (filter test (y ∷ ys))
    keep-step x y ys true le e rising below =
        let here : key x ≤ key y = grind (arith, nat_tests) in
        let all : All (λ z. key x ≤ key z) (y ∷ ys) =
        All-cons (λ z. key x ≤ key z) y ys here
        (All-weaker (λ z. key y ≤ key z) (λ z. key x ≤ key z) (λ z h. omega arith) ys rising.0) in
        filter_yes x (y ∷ ys) e
        ∙ sym (put_by-least x (filter test (y ∷ ys)) (All-filter test (λ z. key x ≤ key z) (y ∷ ys) all))
    keep-step x y ys false le e rising below =
        let less : key y < key x = grind (arith, nat_tests) in
        ap (λ zs. cond (test y) (y ∷ zs) zs) below ∙ keep-behind x y ys (test y) less

    keep-put_by : (x : X) (xs : List X) → test x ≡ true → IsRising xs →
        filter test (put_by key x xs) ≡ put_by key x (filter test xs)
    keep-put_by x [] e rising = filter_yes x [] e
    keep-put_by x (y ∷ ys) e rising =
        keep-step x y ys (nat_le (key x) (key y)) refl e rising (keep-put_by x ys e rising.1)

    filter-step : (x : X) (xs : List X) (s : Bool) → test x ≡ s →
        filter test (sorted_by key xs) ≡ sorted_by key (filter test xs) →
        filter test (put_by key x (sorted_by key xs)) ≡ sorted_by key (cond s (x ∷ filter test xs) (filter test xs))
    filter-step x xs true e below = keep-put_by x (sorted_by key xs) e (IsRising-sorted_by xs) ∙ ap (put_by key x) below
    filter-step x xs false e below = skip-put_by x (sorted_by key xs) e ∙ below

    -- those that pass, sorted
    pub filter-sorted_by : (xs : List X) → filter test (sorted_by key xs) ≡ sorted_by key (filter test xs)
    filter-sorted_by [] = refl
    filter-sorted_by (x ∷ xs) = filter-step x xs (test x) refl (filter-sorted_by xs)

  -- sorted by the key of what they become
  module _ {Y : Type 0} (other : Y → ℕ) (f : X → Y) where
    map-pick : (t : Bool) (a b : List X) (c d : List Y) → map f a ≡ c → map f b ≡ d → map f (cond t a b) ≡ cond t c d
    map-pick true a b c d p q = p
    map-pick false a b c d p q = q

    map-put_by : (x : X) (xs : List X) → other (f x) ≡ key x → All (λ y. other (f y) ≡ key y) xs →
        map f (put_by key x xs) ≡ put_by other (f x) (map f xs)
    map-put_by x [] here all = refl
    map-put_by x (y ∷ ys) here all =
        let next : other (f y) ≡ key y = All-head (λ z. other (f z) ≡ key z) y ys all in
        rw (here, next) (map-pick (nat_le (key x) (key y)) (x ∷ y ∷ ys) (y ∷ put_by key x ys) (f x ∷ f y ∷ map f ys)
        (f y ∷ put_by other (f x) (map f ys)) refl
        (ap (λ zs. f y ∷ zs) (map-put_by x ys here (All-tail (λ z. other (f z) ≡ key z) y ys all))))

    pub map-sorted_by : (xs : List X) → All (λ y. other (f y) ≡ key y) xs →
        map f (sorted_by key xs) ≡ sorted_by other (map f xs)
    map-sorted_by [] all = refl
    map-sorted_by (x ∷ xs) all =
        let rest = All-tail (λ z. other (f z) ≡ key z) x xs all in
        map-put_by x (sorted_by key xs) (All-head (λ z. other (f z) ≡ key z) x xs all)
        (All-sorted_by (λ z. other (f z) ≡ key z) xs rest)
        ∙ ap (put_by other (f x)) (map-sorted_by xs rest)

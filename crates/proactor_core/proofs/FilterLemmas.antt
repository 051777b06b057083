-- What tests keep of a list.
use Rattle.std.proofs.Common.{◌≡◌, ◌≤◌, Bool, true, false, not, cond, List, [], ◌∷◌, Some, None, length, map, filter, suc, refl, ap, ◌∙◌, arith}
use Rattle.std.specs.List.{All, find}
use Rattle.std.proofs.lemmas.List.Elements.{All-cons, All-head, All-nil, All-tail}
use Rattle.std.proofs.lemmas.List.Sums.{length-filter}
use Rattle.std.proofs.lemmas.List.Filters.{sum_by-filter_both}

module _ {X Y : Type 0} (test : Y → Bool) (f : X → Y) where
  map-step : (s : Bool) (x : X) (xs : List X) (ys : List Y) → ys ≡ map f xs →
      cond s (f x ∷ ys) ys ≡ map f (cond s (x ∷ xs) xs)
  map-step true x xs ys e = ap (λ zs. f x ∷ zs) e
  map-step false x xs ys e = e

  -- those that pass once they are mapped
  pub filter-map : (xs : List X) → filter test (map f xs) ≡ map f (filter (λ x. test (f x)) xs)
  filter-map [] = refl
  filter-map (x ∷ xs) = map-step (test (f x)) x (filter (λ y. test (f y)) xs) (filter test (map f xs)) (filter-map xs)

module _ {X : Type 0} (test : X → Bool) where
  pub filter-yes : (x : X) (xs : List X) → test x ≡ true → filter test (x ∷ xs) ≡ x ∷ filter test xs
  filter-yes x xs e = rw e refl

  pub filter-no : (x : X) (xs : List X) → test x ≡ false → filter test (x ∷ xs) ≡ filter test xs
  filter-no x xs e = rw e refl

  pub filter-all : (xs : List X) → All (λ x. test x ≡ true) xs → filter test xs ≡ xs
  filter-all [] all = refl
  filter-all (x ∷ xs) all =
      filter-yes x xs (All-head (λ y. test y ≡ true) x xs all)
      ∙ ap (λ ys. x ∷ ys) (filter-all xs (All-tail (λ y. test y ≡ true) x xs all))

  pub filter-none : (xs : List X) → All (λ x. test x ≡ false) xs → filter test xs ≡ []
  filter-none [] all = refl
  filter-none (x ∷ xs) all =
      filter-no x xs (All-head (λ y. test y ≡ false) x xs all)
      ∙ filter-none xs (All-tail (λ y. test y ≡ false) x xs all)

  none-step : (x : X) (xs : List X) (s : Bool) → test x ≡ s → cond s (x ∷ filter test xs) (filter test xs) ≡ [] →
      (test x ≡ false) × (filter test xs ≡ [])
  none-step x xs true is e = absurd (cc)
  none-step x xs false is e = (is, e)

  -- where none is kept, none passes
  pub none-passes : (xs : List X) → filter test xs ≡ [] → All (λ x. test x ≡ false) xs
  none-passes [] e = All-nil (λ x. test x ≡ false)
  none-passes (x ∷ xs) e =
      let both = none-step x xs (test x) refl e in All-cons (λ y. test y ≡ false) x xs both.0 (none-passes xs both.1)

  comm-step : (other : X → Bool) (x : X) (xs : List X) (s t : Bool) → test x ≡ s → other x ≡ t →
      filter test (filter other xs) ≡ filter other (filter test xs) →
      filter test (cond t (x ∷ filter other xs) (filter other xs))
      ≡ filter other (cond s (x ∷ filter test xs) (filter test xs))
  comm-step other x xs true true e f below = rw (e, f) (ap (λ ys. x ∷ ys) below)
  comm-step other x xs true false e f below = rw f below
  comm-step other x xs false true e f below = rw e below
  comm-step other x xs false false e f below = below

  -- two tests in either order
  pub filter-comm : (other : X → Bool) (xs : List X) → filter test (filter other xs) ≡ filter other (filter test xs)
  filter-comm other [] = refl
  filter-comm other (x ∷ xs) = comm-step other x xs (test x) (other x) refl refl (filter-comm other xs)

  agree-step : (other : X → Bool) (x : X) (xs ys : List X) (s t : Bool) → s ≡ t → xs ≡ ys →
      cond s (x ∷ xs) xs ≡ cond t (x ∷ ys) ys
  agree-step other x xs ys s t e f = rw (e, f) refl

  -- two tests that agree on these
  pub filter-same : (other : X → Bool) (xs : List X) → All (λ x. test x ≡ other x) xs → filter test xs ≡ filter other xs
  filter-same other [] all = refl
  filter-same other (x ∷ xs) all =
      agree-step other x (filter test xs) (filter other xs) (test x) (other x)
      (All-head (λ y. test y ≡ other y) x xs all) (filter-same other xs (All-tail (λ y. test y ≡ other y) x xs all))

  find-step : (x y : X) (xs ys : List X) (s : Bool) → (filter test xs ≡ y ∷ ys → find test xs ≡ Some y) →
      cond s (x ∷ filter test xs) (filter test xs) ≡ y ∷ ys → cond s (Some x) (find test xs) ≡ Some y
  find-step x y xs ys true below e = let same : x ≡ y = cc in ap Some same
  find-step x y xs ys false below e = below e

  -- the first that passes
  pub find-filter : (xs : List X) (y : X) (ys : List X) → filter test xs ≡ y ∷ ys → find test xs ≡ Some y
  find-filter [] y ys e = absurd (cc)
  find-filter (x ∷ xs) y ys e = find-step x y xs ys (test x) (find-filter xs y ys) e

  find-no : (x : X) (xs : List X) → test x ≡ false → find test (x ∷ xs) ≡ find test xs
  find-no x xs e = rw e refl

  pub find-none : (xs : List X) → All (λ x. test x ≡ false) xs → find test xs ≡ None
  find-none [] all = refl
  find-none (x ∷ xs) all =
      find-no x xs (All-head (λ y. test y ≡ false) x xs all) ∙ find-none xs (All-tail (λ y. test y ≡ false) x xs all)

  -- no more pass among those that another test keeps
  pub fewer-pass : (other : X → Bool) (xs : List X) → length (filter test (filter other xs)) ≤ length (filter test xs)
  fewer-pass other xs =
      let part = length-filter test (filter other xs) in
      let all = length-filter test xs in
      let both = sum_by-filter_both other (λ x. not (other x)) (λ _. refl) (λ x. cond (test x) 1 0) xs in
      omega arith

  -- the only one that passes
  pub only-one : (xs : List X) → length (filter test xs) ≤ 1 → (y : X) (ys : List X) (other : X → Bool) →
      filter other xs ≡ y ∷ ys → test y ≡ true → (length (filter test xs) ≡ 1) × All (λ x. test x ≡ false) ys
  only-one xs once y ys other e passes =
      let most = fewer-pass other xs in
      let here : filter test (filter other xs) ≡ y ∷ filter test ys = ap (filter test) e ∙ filter-yes y ys passes in
      let long : length (filter test (filter other xs)) ≡ suc (length (filter test ys)) = ap length here in
      let none : length (filter test ys) ≡ 0 = omega arith in
      (omega arith, none-passes ys (nothing (filter test ys) none))
    where
      nothing : (zs : List X) → length zs ≡ 0 → zs ≡ []
      nothing [] e = refl
      nothing (z ∷ zs) e = absurd (omega arith)

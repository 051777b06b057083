-- Lists in which something rises, and elements of lists.
use Rattle.std.proofs.Common.{◌≡◌, ◌⊎◌, ℕ, zero, suc, ◌<◌, List, [], ◌∷◌, ◌++◌, inl, inr, map, refl, sym, subst, arith}
use Rattle.std.specs.List.{All, AllPairs, Any}
use Rattle.std.proofs.lemmas.List.Elements.{All-append, All-head, All-map, All-tail}
use Rattle.std.proofs.lemmas.List.Kept.{AllPairs-cons}

-- each element is below every later one
abbrev pub Rises : {X : Type 0} → (X → ℕ) → List X → Type 0
Rises f [] = Unit {0}
Rises f (x ∷ xs) = All (λ y. f x < f y) xs × Rises f xs

pub rises-append : {X : Type 0} (f : X → ℕ) (xs ys : List X) → Rises f xs → Rises f ys →
    All (λ x. All (λ y. f x < f y) ys) xs → Rises f (xs ++ ys)
rises-append f [] ys first second across = second
rises-append f (x ∷ xs) ys first second across = (
  All-append (λ y. f x < f y) xs ys first.0 (All-head (λ x. All (λ y. f x < f y) ys) x xs across),
  rises-append f xs ys first.1 second (All-tail (λ x. All (λ y. f x < f y) ys) x xs across),
)

pub rises-same : {X : Type 0} (f g : X → ℕ) (xs : List X) → All (λ x. g x ≡ f x) xs → Rises f xs → Rises g xs
rises-same f g [] same rises = tt
rises-same f g (x ∷ xs) same rises = (
  λ k d within.
      let less = rises.0 k d within in
      let here : g x ≡ f x = All-head (λ x. g x ≡ f x) x xs same in
      let there = All-tail (λ x. g x ≡ f x) x xs same k d within in
      omega (arith, less, here, there),
  rises-same f g xs (All-tail (λ x. g x ≡ f x) x xs same) rises.1,
)

pub rises-map : {X Y : Type 0} (f : Y → ℕ) (h : X → Y) (xs : List X) → Rises (λ x. f (h x)) xs → Rises f (map h xs)
rises-map f h [] rises = tt
rises-map f h (x ∷ xs) rises = (All-map (λ y. f (h x) < f y) h xs rises.0, rises-map f h xs rises.1)

pub pairs-from : {X : Type 0} (f : X → ℕ) (xs : List X) → Rises f xs → AllPairs (λ x y. f x < f y) xs
pairs-from f [] rises = λ i j d less within. absurd (omega (arith, within))
pairs-from f (x ∷ xs) rises = AllPairs-cons (λ x y. f x < f y) x xs rises.0 (pairs-from f xs rises.1)

pub rises-from : {X : Type 0} (f : X → ℕ) (xs : List X) → AllPairs (λ x y. f x < f y) xs → Rises f xs
rises-from f [] pairs = tt
rises-from f (x ∷ xs) pairs = (
  λ k d within. pairs 0 (suc k) d (omega arith) (omega (arith, within)),
  rises-from f xs (λ i j d less within. pairs (suc i) (suc j) d (omega (arith, less)) (omega (arith, within))),
)

pub any_here : {X : Type 0} (P : X → Type 0) (x : X) (xs : List X) → P x → Any P (x ∷ xs)
any_here P x xs is = (0, x, omega arith, refl, is)

pub any_there : {X : Type 0} (P : X → Type 0) (x : X) (xs : List X) → Any P xs → Any P (x ∷ xs)
any_there P x xs (k, y, within, at, is) = (suc k, y, omega (arith, within), at, is)

pub any_either : {X : Type 0} (P : X → Type 0) (x : X) (xs : List X) → Any P (x ∷ xs) → P x ⊎ Any P xs
any_either P x xs (zero, y, within, at, is) = inl (subst P (sym at) is)
any_either P x xs (suc k, y, within, at, is) = inr (k, y, omega (arith, within), at, is)

pub any-left : {X : Type 0} (P : X → Type 0) (xs ys : List X) → Any P xs → Any P (xs ++ ys)
any-left P [] ys (k, y, within, at, is) = absurd (omega (arith, within))
any-left P (x ∷ xs) ys some = elim (any_either P x xs some) [
  | inl is ↦ any_here P x (xs ++ ys) is
  | inr rest ↦ any_there P x (xs ++ ys) (any-left P xs ys rest)
]

pub any-right : {X : Type 0} (P : X → Type 0) (xs ys : List X) → Any P ys → Any P (xs ++ ys)
any-right P [] ys some = some
any-right P (x ∷ xs) ys some = any_there P x (xs ++ ys) (any-right P xs ys some)

pub any-map : {X Y : Type 0} (P : Y → Type 0) (h : X → Y) (xs : List X) → Any (λ x. P (h x)) xs → Any P (map h xs)
any-map P h [] (k, y, within, at, is) = absurd (omega (arith, within))
any-map P h (x ∷ xs) some = elim (any_either (λ x. P (h x)) x xs some) [
  | inl is ↦ any_here P (h x) (map h xs) is
  | inr rest ↦ any_there P (h x) (map h xs) (any-map P h xs rest)
]

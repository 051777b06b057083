-- The words of a form of two or three words.
use Rattle.std.proofs.Common.{◌≡◌, ℕ, ◌≤◌, ◌<◌, List, [], ◌∷◌, length, map, arith, get_or, sym}

-- a list of two elements is seen as these two
pub map-two : {X : Type 0} (f : X → List ℕ) (xs : List X) (x y : X) → 2 ≤ length xs → length xs < 3 →
    x ≡ get_or xs 0 x → y ≡ get_or xs 1 y → map f xs ≡ f x ∷ f y ∷ []
map-two f [] x y some few first second = absurd (omega (arith, some))
map-two f (a ∷ []) x y some few first second = absurd (omega (arith, some))
map-two f (a ∷ b ∷ []) x y some few first second = λ i. f (sym first i) ∷ f (sym second i) ∷ []
map-two f (a ∷ b ∷ c ∷ rest) x y some few first second = absurd (omega (arith, few))

-- a list of three elements is seen as these three
pub map-three : {X : Type 0} (f : X → List ℕ) (xs : List X) (x y z : X) → 3 ≤ length xs → length xs < 4 →
    x ≡ get_or xs 0 x → y ≡ get_or xs 1 y → z ≡ get_or xs 2 z → map f xs ≡ f x ∷ f y ∷ f z ∷ []
map-three f [] x y z some few first second third = absurd (omega (arith, some))
map-three f (a ∷ []) x y z some few first second third = absurd (omega (arith, some))
map-three f (a ∷ b ∷ []) x y z some few first second third = absurd (omega (arith, some))
map-three f (a ∷ b ∷ c ∷ []) x y z some few first second third = λ i.
    f (sym first i) ∷ f (sym second i) ∷ f (sym third i) ∷ []
map-three f (a ∷ b ∷ c ∷ d ∷ rest) x y z some few first second third = absurd (omega (arith, few))

-- A command of two words.
use Rattle.std.proofs.Common.{◌≡◌, ℕ, ◌≤◌, ◌<◌, List, [], ◌∷◌, length, map, arith, get_or, sym}

-- a list of two elements is seen as these
pub map-two : {X : Type 0} (f : X → List ℕ) (xs : List X) (x y : X) → 2 ≤ length xs → length xs < 3 →
    x ≡ get_or xs 0 x → y ≡ get_or xs 1 y → map f xs ≡ f x ∷ f y ∷ []
map-two f [] x y some few first second = absurd (omega (arith, some))
map-two f (a ∷ []) x y some few first second = absurd (omega (arith, some))
map-two f (a ∷ b ∷ []) x y some few first second = λ i. f (sym first i) ∷ f (sym second i) ∷ []
map-two f (a ∷ b ∷ c ∷ rest) x y some few first second = absurd (omega (arith, few))

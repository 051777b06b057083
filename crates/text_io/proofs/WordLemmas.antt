-- The words of a command.
use Rattle.std.proofs.Common.{◌≡◌, ℕ, ◌≤◌, ◌<◌, List, [], ◌∷◌, length, map, arith, get_or, refl}
use Rattle.std.specs.Prelude.{Option, Some, None, ◌↔◌}

-- a list of one element is seen as that element alone
pub map-one : {X : Type 0} (f : X → List ℕ) (xs : List X) (x : X) → 1 ≤ length xs → length xs < 2 → x ≡ get_or xs 0 x →
    map f xs ≡ f x ∷ []
map-one f [] x some few same = absurd (omega (arith, some))
map-one f (y ∷ []) x some few same = cc
map-one f (y ∷ z ∷ ys) x some few same = absurd (omega (arith, few))

-- no form is found exactly where the words have none
pub no_form : {F : Type 0} (IsForm : F → Type 0) (found : Option F) → ((form : F) → (found ≡ Some form) ↔ IsForm form) →
    (found ≡ None) ↔ (((form : F) × IsForm form) → ⊥)
no_form IsForm None exact = (λ same has. cc ((exact has.0).1 has.1), λ none. refl)
no_form IsForm (Some form) exact = (λ same. absurd (cc same), λ none. absurd (none (form, (exact form).0 refl)))

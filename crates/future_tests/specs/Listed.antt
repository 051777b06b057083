-- A task that wants operations of a list wants one exactly while some are left of it.
use Rattle.std.specs.Prelude.{◌≡◌, ◌↔◌, ℕ, zero, suc, List, [], ◌∷◌, Option, None, Some, length, slice_get}
use Rattle.std.proofs.Common.{refl, subst}

abbrev is_some : Option ℕ → Type 0
is_some None = ⊥
is_some (Some op) = Unit {0}

abbrev is_positive : ℕ → Type 0
is_positive zero = ⊥
is_positive (suc n) = Unit {0}

pub wants_while_some : (left : List ℕ) → (slice_get left 0 ≡ None) ↔ (length left ≡ 0)
wants_while_some [] = (λ is. refl, λ is. refl)
wants_while_some (op ∷ left) =
    (λ is. absurd (subst is_some is tt), λ is. absurd (subst is_positive is tt))

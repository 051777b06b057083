-- Tables that hold nothing.
use Rattle.std.proofs.Common.{◌≡◌, ℕ, List, [], ◌∷◌, length, refl, sym, ◌∙◌, arith}
use Rattle.std.proofs.lemmas.Bool.{eq-eqb}
use Rattle.std.specs.Prelude.{◌==◌, ◌↔◌, true, Some, None, nat_eq}
use Rattle.std.specs.Map.{lookup}

empty_none : {X : Type 0} (entries : List (ℕ × X)) → length entries ≡ 0 → (key : ℕ) → lookup (nat_eq key) entries ≡ None
empty_none [] is key = refl
empty_none (entry ∷ entries) is key = absurd (omega arith)

none_empty : {X : Type 0} (entries : List (ℕ × X)) → ((key : ℕ) → lookup (nat_eq key) entries ≡ None) → length entries ≡ 0
none_empty [] none = refl
none_empty {X} (entry ∷ entries) none = absurd (none_some entry.1 (sym (none entry.0)
    ∙ (let here : (entry.0 == entry.0) ≡ true = eq-eqb entry.0 entry.0 refl in rw here refl)))
  where
    none_some : (x : X) → None ≡ Some x → ⊥
    none_some x e = cc

pub empty_iff : {X : Type 0} (entries : List (ℕ × X)) (number : ℕ) → number ≡ length entries
    → (number ≡ 0) ↔ ((key : ℕ) → lookup (nat_eq key) entries ≡ None)
empty_iff entries number same = (λ zero. empty_none entries (sym same ∙ zero), λ none. same ∙ none_empty entries none)

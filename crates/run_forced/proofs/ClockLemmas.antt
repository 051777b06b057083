-- What a clock names.
use Rattle.std.proofs.Common.{◌≡◌, ◌+◌, ℕ, ◌<◌, List, [], ◌∷◌, ◌++◌, refl, sym, subst, inl, inr, ⊎_elim, get_or, length, arith}
use Rattle.std.proofs.lemmas.List.Elements.{Contains-get_or, Contains-push_cases}
use Rattle.std.specs.List.{Contains}
use Rattle.std.specs.Prelude.{◌⊎◌}
use Rattle.run_forced.specs.declared.clock.Seen.{Seen}

-- a line of a list is kept
pub kept_more : (all initial old new : List Seen) (at : ℕ) (d : Seen) → at < length all → new ≡ old ++ get_or all at d ∷ []
    → ((seen : Seen) → Contains old seen → Contains initial seen ⊎ Contains all seen)
    → (seen : Seen) → Contains new seen → Contains initial seen ⊎ Contains all seen
kept_more all initial old new at d less is before seen contains =
    ⊎_elim (λ was. before seen was)
    (λ (same : get_or all at d ≡ seen). inr (subst (λ (s : Seen). Contains all s) same (Contains-get_or all at d less)))
    (Contains-push_cases old (get_or all at d) seen (subst (λ (l : List Seen). Contains l seen) is contains))

pub only_one : (one seen : Seen) → Contains (one ∷ []) seen → one ≡ seen
only_one one seen contains = ⊎_elim (λ none. absurd (no_less none.1)) (λ same. same) (Contains-push_cases [] one seen contains)
  where
    no_less : {n : ℕ} → n < 0 → ⊥
    no_less less = absurd (omega arith)

pub none_named : (seen : Seen) (all : List Seen) → all ≡ [] → Contains all seen → ⊥
none_named seen all none contains = no_less (subst (λ (l : List Seen). Contains l seen) none contains).1
  where
    no_less : {n : ℕ} → n < 0 → ⊥
    no_less less = absurd (omega arith)

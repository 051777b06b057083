-- Whether guards are released.
use Rattle.std.proofs.Common.{◌≡◌, ℕ, zero, suc, ◌+◌, ◌<◌, Bool, true, false, ◌&&◌, ◌||◌, List, [], ◌∷◌, refl, sym, ap, ◌∙◌, ⊎_elim, add-one, arith}
use Rattle.std.proofs.str.Laws.{order}
use Rattle.std.specs.List.{list_any}
use Rattle.session_script.specs.declared.parts.PlacedAct.{PlacedAct}
use Rattle.session_script.specs.Script as script
use Rattle.session_script.specs.Grammar.{releases, is_released, are_released}
use Rattle.session_script.specs.Outcome.{entry_of, entries_of}

any_of_map : (p : script.Entry → Bool) (entries : List PlacedAct) →
    list_any (λ entry. p (entry_of entry)) entries ≡ list_any p (entries_of entries)
any_of_map p [] = refl
any_of_map p (entry ∷ entries) = ap (λ b. p (entry_of entry) || b) (any_of_map p entries)

-- a guard is released where one of the acts as they are kept releases it
pub released_in : (guard : ℕ) (entries : List PlacedAct) →
    list_any (λ entry. releases guard entry.act) entries ≡ is_released guard (entries_of entries)
unfolding is_released
released_in guard entries = any_of_map (λ entry. releases guard entry.act) entries

pub none_released : (entries : List script.Entry) → are_released 0 entries ≡ true
unfolding are_released
none_released entries = refl

-- one more guard is released
pub one_more_released : (guards : ℕ) (entries : List script.Entry) → is_released guards entries ≡ true →
    are_released guards entries ≡ true → are_released (guards + 1) entries ≡ true
unfolding are_released
one_more_released guards entries this others = rw (add-one guards, this, others) refl

-- where one isn't released, not all are
pub not_all_released : (guards guard : ℕ) (entries : List script.Entry) → guard < guards →
    is_released guard entries ≡ false → are_released guards entries ≡ false
unfolding are_released
not_all_released zero guard entries lt missing = absurd (omega arith)
not_all_released (suc guards) guard entries lt missing =
    ⊎_elim (λ below. rw (not_all_released guards guard entries below missing) (and_false (is_released guards entries)))
    (λ above. let e : guard ≡ guards = omega arith in rw (sym (ap (λ g. is_released g entries) e) ∙ missing) refl)
    (order guard guards)
  where
    and_false : (b : Bool) → (b && false) ≡ false
    and_false true = refl
    and_false false = refl

-- Sums over what all passes know, of which one changed.
use Rattle.std.proofs.Common.{◌≡◌, ℕ, zero, suc, ◌+◌, ◌<◌, ◌≤◌, List, [], ◌∷◌, length, get_or, set, sym, ap, ◌∙◌, refl, ⊎_elim, arith, sum_by}
use Rattle.std.proofs.lemmas.List.Sums.{sum_by-set, sum_by-append}
use mathlib.Core.Option.{some, some-injective, some-ne-none}
use lib.ListN.{get_elem?}
use Rattle.crossbeam_queue.proofs.Lists.{at_set}
use Rattle.ready_hints.specs.declared.rule.Hand.{Hand}
use Rattle.ready_hints.specs.HintRule.{spent_hand}

pub at_below : {A : Type 0} (l : List A) (i : ℕ) (a : A) → get_elem? l i ≡ some a → i < length l
at_below [] i a e = absurd (some-ne-none a (sym e))
at_below (x ∷ xs) zero a e = omega arith
at_below (x ∷ xs) (suc i) a e = let l = at_below xs i a e in omega arith

get_or_of : {A : Type 0} (l : List A) (i : ℕ) (a : A) → get_elem? l i ≡ some a → get_or l i a ≡ a
get_or_of [] i a e = refl
get_or_of (x ∷ xs) zero a e = some-injective x a e
get_or_of (x ∷ xs) (suc i) a e = get_or_of xs i a e

-- a sum over the views, after one of them changed
pub sum_after : (f : Hand → ℕ) (views : List Hand) (pass : ℕ) (v w : Hand) → get_elem? views pass ≡ some v
    → sum_by f (set views pass w) + f v ≡ sum_by f views + f w
sum_after f views pass v w at = ap (λ (z : Hand). sum_by f (set views pass w) + f z) (sym (get_or_of views pass v at))
    ∙ sum_by-set f views pass w v (at_below views pass v at)

-- one view has no more than all together
pub part_of_sum : (f : Hand → ℕ) (views : List Hand) (pass : ℕ) (v : Hand) → f spent_hand ≡ 0
    → get_elem? views pass ≡ some v → f v ≤ sum_by f views
part_of_sum f views pass v none at = let s = sum_after f views pass v spent_hand at in omega arith

sums_to_zero : (f g : Hand → ℕ) (views : List Hand)
    → ((i : ℕ) (u : Hand) → get_elem? views i ≡ some u → g u ≡ 0 → f u ≡ 0)
    → sum_by g views ≡ 0 → sum_by f views ≡ 0
sums_to_zero f g [] each none = refl
sums_to_zero f g (u ∷ us) each none = let a = sum_by-append g (u ∷ []) us in
    let a' : sum_by g (u ∷ us) ≡ (0 + g u) + sum_by g us = a in
    let b = sum_by-append f (u ∷ []) us in let b' : sum_by f (u ∷ us) ≡ (0 + f u) + sum_by f us = b in
    let first : f u ≡ 0 = each 0 u refl (omega arith) in
    let rest = sums_to_zero f g us (λ i w at. each (suc i) w at) (omega arith) in omega arith

-- a pass that has all parts has all of what passes without a part don't have
pub whole : (f : Hand → ℕ) (views : List Hand) (pass : ℕ) (v : Hand) → f spent_hand ≡ 0
    → ((i : ℕ) (u : Hand) → get_elem? views i ≡ some u → u.parts ≡ 0 → f u ≡ 0)
    → get_elem? views pass ≡ some v → sum_by (λ z. z.parts) views ≡ v.parts → sum_by f views ≡ f v
whole f views pass v none each at all = let s = sum_after (λ (z : Hand). z.parts) views pass v spent_hand at in
    let t = sum_after f views pass v spent_hand at in
    let zero_parts : sum_by (λ (z : Hand). z.parts) (set views pass spent_hand) ≡ 0 = omega arith in
    let zeros = sums_to_zero f (λ z. z.parts) (set views pass spent_hand)
    (λ i u there e. ⊎_elim (λ (p : (i ≡ pass) × (spent_hand ≡ u)). ap f (sym p.1)
    ∙ none) (λ p. each i u p.1 e) (at_set views pass i spent_hand u there)) zero_parts in omega arith

-- The passes beside one that hasn't all parts may take all that is left.
use Rattle.std.proofs.Common.{◌≡◌, ◌≢◌, ℕ, zero, suc, ◌+◌, ◌<◌, List, [], ◌∷◌, set, sym, refl, ap, ◌∙◌, ⊎_elim, arith, sum_by}
use Rattle.std.proofs.lemmas.List.Sums.{sum_by-cons}
use Rattle.std.proofs.lemmas.Bool.{cases_lt}
use mathlib.Core.Option.{some, some-injective, some-ne-none}
use lib.ListN.{get_elem?}
use Rattle.crossbeam_queue.proofs.Lists.{set_else}
use Rattle.ready_hints.specs.declared.rule.Hand.{Hand}
use Rattle.ready_hints.specs.HintRule.{OthersMayTakeAll}
use Rattle.ready_hints.proofs.HintLemmas.{pops}

abbrev parts_of : List Hand → ℕ
parts_of views = sum_by (λ v. v.parts) views

parts_of-cons : (v : Hand) (views : List Hand) → parts_of (v ∷ views) ≡ v.parts + parts_of views
parts_of-cons v views = sum_by-cons (λ (z : Hand). z.parts) v views

-- a pass with a part
some_part : (views : List Hand) → 0 < parts_of views
    → (i : ℕ) × (u : Hand) × (get_elem? views i ≡ some u) × (0 < u.parts)
some_part [] more = absurd (omega arith)
some_part (v ∷ views) more = ⊎_elim
    (λ (part : 0 < v.parts). (0, v, refl, part))
    (λ none. let e = parts_of-cons v views in let (i, u, at, part) = some_part views (omega arith) in
    (suc i, u, at, part))
    (cases_lt 0 v.parts)

-- another pass with a part
other_part : (views : List Hand) (pass : ℕ) (v : Hand) → get_elem? views pass ≡ some v → v.parts < parts_of views
    → (i : ℕ) × (u : Hand) × (pass ≢ i) × (get_elem? views i ≡ some u) × (0 < u.parts)
other_part [] pass v at less = absurd (some-ne-none v (sym at))
other_part (x ∷ views) zero v at less = let e = parts_of-cons x views in
    let same : x.parts ≡ v.parts = ap (λ (z : Hand). z.parts) (some-injective x v at) in
    let (i, u, there, part) = some_part views (omega arith) in (suc i, u, (λ h. omega arith), there, part)
other_part (x ∷ views) (suc pass) v at less = ⊎_elim
    (λ (part : 0 < x.parts). (0, x, (λ h. omega arith), refl, part))
    (λ none. let e = parts_of-cons x views in
    let (i, u, apart, there, part) = other_part views pass v at (omega arith) in
    (suc i, u, (λ h. apart (omega arith)), there, part))
    (cases_lt 0 x.parts)

pub others_may_take_all : OthersMayTakeAll
others_may_take_all [] views pass v r at less = (views, r, at)
others_may_take_all (x ∷ items) views pass v r at less =
    let (i, u, apart, there, part) = other_part views pass v at (let e = r.parts in omega arith) in
    let (w, after, told) = pops i u part x items views r there in
    others_may_take_all items (set views i w) pass v after (set_else views i pass w apart ∙ at) less

-- Each call keeps the rule of the hints.
use Rattle.std.proofs.Common.{◌≡◌, ℕ, zero, suc, ◌+◌, ◌<◌, cond, eqb, List, [], ◌∷◌, ◌++◌, length, set, sym, refl, ap, ◌∙◌, subst, ⊎_elim, arith, sum_by}
use Rattle.std.proofs.lemmas.List.Sums.{sum_by_push, sum_by-append}
use Rattle.std.proofs.lemmas.List.{append_assoc}
use mathlib.Core.Option.{some, some-injective, some-ne-none}
use lib.ListN.{get_elem?}
use Rattle.crossbeam_queue.proofs.Lists.{at_set, at_snoc, set_here}
use Rattle.crossbeam_queue.specs.Fifo.{Pushes, Pops, Forks, Merges, Learns}
use Rattle.ready_hints.specs.declared.rule.Hint.{Hint}
use Rattle.ready_hints.specs.declared.rule.Hand.{Hand}
use Rattle.ready_hints.specs.HintRule.{times, times_hinted, all_parts, hint, hand, first_hand, spent_hand, cut_left, cut_right, gathered_hints, AreNumbered, HintRule, TookOnce, hints, takes, accounts}
use Rattle.ready_hints.proofs.SumLemmas.{at_below, sum_after, whole}
use Rattle.ready_hints.proofs.NumberedLemmas.{nothing, stays, grows, newcomer, joins, after_all, apart, as_hinted}

-- a list with one more lane
times_push : (lane : ℕ) (xs : List ℕ) (x : ℕ) → times lane (xs ++ x ∷ []) ≡ times lane xs + cond (eqb lane x) 1 0
times_push lane xs x = sum_by_push (λ y. cond (eqb lane y) 1 0) xs x

times_more : (lane : ℕ) (x : ℕ) (xs : List ℕ) → times lane (x ∷ xs) ≡ times lane xs + cond (eqb lane x) 1 0
times_more lane x xs = let c : ℕ = cond (eqb lane x) 1 0 in
    let e = sum_by-append (λ y. cond (eqb lane y) 1 0) (x ∷ []) xs in
    let e' : times lane (x ∷ xs) ≡ (0 + c) + times lane xs = e in omega arith

-- the same of hints
times_hinted_push : (lane : ℕ) (xs : List Hint) (x : Hint)
    → times_hinted lane (xs ++ x ∷ []) ≡ times_hinted lane xs + cond (eqb lane x.lane) 1 0
times_hinted_push lane xs x = sum_by_push (λ (y : Hint). cond (eqb lane y.lane) 1 0) xs x

times_hinted-append : (lane : ℕ) (xs ys : List Hint)
    → times_hinted lane (xs ++ ys) ≡ times_hinted lane xs + times_hinted lane ys
times_hinted-append lane xs ys = sum_by-append (λ (y : Hint). cond (eqb lane y.lane) 1 0) xs ys

abbrev hinted_of : ℕ → Hand → ℕ
hinted_of lane v = times_hinted lane v.hinted

abbrev taken_of : ℕ → Hand → ℕ
taken_of lane v = times_hinted lane v.taken

abbrev hinted_hints : Hand → List Hint
hinted_hints v = v.hinted

abbrev taken_hints : Hand → List Hint
taken_hints v = v.taken

-- who has no part still knows nothing, where one pass changed to one that has a part
idle_set : (views : List Hand) (pass : ℕ) (w : Hand) → (w.parts ≡ 0 → (w.hinted ≡ []) × (w.taken ≡ []))
    → ((i : ℕ) (u : Hand) → get_elem? views i ≡ some u → u.parts ≡ 0 → (u.hinted ≡ []) × (u.taken ≡ []))
    → (i : ℕ) (u : Hand) → get_elem? (set views pass w) i ≡ some u → u.parts ≡ 0 → (u.hinted ≡ []) × (u.taken ≡ [])
idle_set views pass w mine others i u at = ⊎_elim
    (λ (p : (i ≡ pass) × (w ≡ u)). subst (λ (z : Hand). z.parts ≡ 0 → (z.hinted ≡ []) × (z.taken ≡ [])) p.1 mine)
    (λ p. others i u p.1) (at_set views pass i w u at)

pub begins : HintRule [] (first_hand ∷ [])
begins = record {
  parts = refl;
  even = λ lane. refl;
  out = [];
  hinted = nothing hinted_hints refl;
  taken = nothing taken_hints refl;
  idle = λ pass v at none. absurd (never pass v at none);
}
  where
    never : (pass : ℕ) (v : Hand) → get_elem? (first_hand ∷ []) pass ≡ some v → v.parts ≡ 0 → ⊥
    never zero v at none =
        let e : all_parts ≡ v.parts = ap (λ (z : Hand). z.parts) (some-injective first_hand v at) in omega arith
    never (suc pass) v at none = some-ne-none v (sym at)

-- what every pass knows of what it took
knows : (items : List ℕ) (views : List Hand) (pass : ℕ) (v : Hand) → HintRule items views
    → get_elem? views pass ≡ some v → TookOnce v
knows items views pass v r at = (
  apart taken_hints r.out views pass v refl at r.taken,
  as_hinted r.out items v.hinted v.taken (r.hinted.at_place pass v at) (r.taken.at_place pass v at),
)

pub puts : (n pass : ℕ) (v : Hand) (x : ℕ) → 0 < v.parts → Pushes HintRule n pass v x (hints v x)
puts n pass v x part items views room r at =
    let number : ℕ = length (r.out ++ items) in
    let w = hand v.parts (v.hinted ++ hint number x ∷ []) v.taken in
    let here = set_here views pass w (at_below views pass v at) in
    let hinted : AreNumbered hinted_hints (r.out ++ (items ++ x ∷ [])) (set views pass w) =
    subst (λ lanes. AreNumbered hinted_hints lanes (set views pass w)) (append_assoc r.out items (x ∷ []))
    (grows hinted_hints (r.out ++ items) views pass v w x at refl r.hinted) in (
      w,
      record {
        parts = let s = sum_after (λ (z : Hand). z.parts) views pass v w at in let p = r.parts in omega arith;
        even = λ lane.
            let c : ℕ = cond (eqb lane x) 1 0 in
            let a = sum_after (hinted_of lane) views pass v w at in
            let b = sum_after (taken_of lane) views pass v w at in
            let e = times_hinted_push lane v.hinted (hint number x) in
            let f = times_push lane items x in
            let o = r.even lane in
            let h : ℕ = sum_by (hinted_of lane) views in
            let t : ℕ = sum_by (taken_of lane) views in
            let h' : ℕ = sum_by (hinted_of lane) (set views pass w) in
            let t' : ℕ = sum_by (taken_of lane) (set views pass w) in
            let vh : ℕ = times_hinted lane v.hinted in
            let vt : ℕ = times_hinted lane v.taken in
            let k : ℕ = times lane items in
            let a' : h' + vh ≡ h + times_hinted lane w.hinted = a in
            let b' : t' + vt ≡ t + vt = b in
            let o' : h ≡ t + k = o in let goal : h' ≡ t' + times lane (items ++ x ∷ []) = omega arith in goal;
        out = r.out;
        hinted = hinted;
        taken = stays taken_hints r.out views pass v w at refl r.taken;
        idle = idle_set views pass w (λ none. absurd (omega arith)) r.idle;
      },
      (
        (number, after_all (r.out ++ items) v.hinted (r.hinted.at_place pass v at), refl),
        apart hinted_hints (r.out ++ (items ++ x ∷ [])) (set views pass w) pass w refl here hinted,
      ),
    )

pub learns : (pass : ℕ) (v : Hand) → Learns HintRule pass v (accounts v)
learns pass v items views r at = (
  knows items views pass v r at,
  λ all lane. let o = r.even lane in
      let h =
      whole (hinted_of lane) views pass v refl (λ i u there none. ap (times_hinted lane) (r.idle i u there none).0) at
      (r.parts ∙ sym all) in
      let t =
      whole (taken_of lane) views pass v refl (λ i u there none. ap (times_hinted lane) (r.idle i u there none).1) at
      (r.parts ∙ sym all) in
      omega arith,
)

pub pops : (pass : ℕ) (v : Hand) → 0 < v.parts → Pops HintRule pass v (takes v)
pops pass v part x items views r at =
    let number : ℕ = length r.out in
    let w = hand v.parts v.hinted (v.taken ++ hint number x ∷ []) in
    let after : HintRule items (set views pass w) = record {
      parts = let s = sum_after (λ (z : Hand). z.parts) views pass v w at in let p = r.parts in omega arith;
      even = λ lane. let c : ℕ = cond (eqb lane x) 1 0 in let a = sum_after (hinted_of lane) views pass v w at in
          let b = sum_after (taken_of lane) views pass v w at in
          let e = times_hinted_push lane v.taken (hint number x) in let f = times_more lane x items in
          let o = r.even lane in
          let h : ℕ = sum_by (hinted_of lane) views in let t : ℕ = sum_by (taken_of lane) views in
          let h' : ℕ = sum_by (hinted_of lane) (set views pass w) in
          let t' : ℕ = sum_by (taken_of lane) (set views pass w) in
          let vh : ℕ = times_hinted lane v.hinted in let vt : ℕ = times_hinted lane v.taken in
          let k : ℕ = times lane items in
          let a' : h' + vh ≡ h + vh = a in let b' : t' + vt ≡ t + times_hinted lane w.taken = b in
          let o' : h ≡ t + times lane (x ∷ items) = o in
          let goal : h' ≡ t' + k = omega arith in goal;
      out = r.out ++ x ∷ [];
      hinted =
          subst (λ lanes. AreNumbered hinted_hints lanes (set views pass w)) (sym (append_assoc r.out (x ∷ []) items))
          (stays hinted_hints (r.out ++ x ∷ items) views pass v w at refl r.hinted);
      taken = grows taken_hints r.out views pass v w x at refl r.taken;
      idle = idle_set views pass w (λ none. absurd (omega arith)) r.idle;
    } in (
      w,
      after,
      (
        (number, after_all r.out v.taken (r.taken.at_place pass v at), refl),
        knows items (set views pass w) pass w after (set_here views pass w (at_below views pass v at)),
        λ all lane. let k = (learns pass v (x ∷ items) views r at).1 all lane in
            let e = times_hinted_push lane v.taken (hint number x) in let f = times_more lane x items in omega arith,
      ),
    )

pub forks : (pass : ℕ) (v : Hand) → 1 < v.parts → Forks HintRule pass v (cut_left v) (cut_right v)
forks pass v more items views r at = let left = cut_left v in let right = cut_right v in record {
  parts = let s = sum_after (λ (z : Hand). z.parts) views pass v left at in let p = r.parts in
      let q = sum_by_push (λ (z : Hand). z.parts) (set views pass left) right in omega arith;
  even = λ lane. let a = sum_after (hinted_of lane) views pass v left at in
      let b = sum_after (taken_of lane) views pass v left at in
      let p = sum_by_push (hinted_of lane) (set views pass left) right in
      let q = sum_by_push (taken_of lane) (set views pass left) right in let o = r.even lane in omega arith;
  out = r.out;
  hinted =
      newcomer hinted_hints (r.out ++ items) (set views pass left) right refl
      (stays hinted_hints (r.out ++ items) views pass v left at refl r.hinted);
  taken =
      newcomer taken_hints r.out (set views pass left) right refl (stays taken_hints r.out views pass v left at refl r.taken);
  idle = λ i u there. ⊎_elim (λ old. idle_set views pass left (λ none. absurd (omega arith)) r.idle i u old)
      (λ (e : right ≡ u).
      subst (λ (z : Hand). z.parts ≡ 0 → (z.hinted ≡ []) × (z.taken ≡ [])) e (λ none. absurd (omega arith)))
      (at_snoc (set views pass left) right u i there);
}

pub merges : (pass : ℕ) (v : Hand) (other : ℕ) (w : Hand) → 0 < v.parts
    → Merges HintRule pass v other w (gathered_hints v w) spent_hand
merges pass v other w part items views r at apart there = let both = gathered_hints v w in
    let inner = set views pass both in
    let theirs : get_elem? views other ≡ some w =
    ⊎_elim (λ (p : (other ≡ pass) × (both ≡ w)). absurd (apart p.0)) (λ p. p.1)
    (at_set views pass other both w there) in
    record {
      parts =
          let s = sum_after (λ (z : Hand). z.parts) views pass v both at in
          let t = sum_after (λ (z : Hand). z.parts) inner other w spent_hand there in let p = r.parts in omega arith;
      even = λ lane.
          let a = sum_after (hinted_of lane) views pass v both at in
          let b = sum_after (taken_of lane) views pass v both at in
          let c = sum_after (hinted_of lane) inner other w spent_hand there in
          let d = sum_after (taken_of lane) inner other w spent_hand there in
          let e = times_hinted-append lane v.hinted w.hinted in
          let f = times_hinted-append lane v.taken w.taken in let o = r.even lane in omega arith;
      out = r.out;
      hinted =
          joins hinted_hints (r.out ++ items) views pass v both other w at there (r.hinted.at_place other w theirs) refl
          refl r.hinted;
      taken =
          joins taken_hints r.out views pass v both other w at there (r.taken.at_place other w theirs) refl refl
          r.taken;
      idle =
          idle_set inner other spent_hand (λ _. (refl, refl))
          (idle_set views pass both (λ none. absurd (omega arith)) r.idle);
    }

-- The hints of all passes keep their numbers.
use Rattle.std.proofs.Common.{◌≡◌, ℕ, zero, suc, ◌≢◌, ◌+◌, ◌<◌, Bool, true, false, cond, eqb, List, [], ◌∷◌, ◌++◌, length, set, sym, refl, ap, ◌∙◌, subst, ⊎_elim, arith, sum_by, All}
use Rattle.std.proofs.lemmas.List.Sums.{sum_by_push, sum_by-append}
use Rattle.std.proofs.lemmas.List.Elements.{All-nil, All-push, All-append, All-same, All-weaker, All-contains}
use Rattle.std.proofs.lemmas.List.{length_push}
use Rattle.std.proofs.lemmas.Bool.{cases_lt, ne_eqb}
use Rattle.std.proofs.lemmas.Bool.Decides.{eqb_tells}
use mathlib.Core.Option.{some, some-injective, some-ne-none}
use lib.ListN.{get_elem?}
use Rattle.crossbeam_queue.proofs.Lists.{at_set, at_snoc, at_longer, at_last}
use Rattle.ready_hints.specs.declared.rule.Hint.{Hint}
use Rattle.ready_hints.specs.declared.rule.Hand.{Hand}
use Rattle.ready_hints.specs.HintRule.{hint, numbered, first_hand, spent_hand, IsAfter, AreApart, AreAsHinted, AreNumbered}
use Rattle.ready_hints.proofs.SumLemmas.{at_below, sum_after, part_of_sum}

-- the hint has the lane at the place of its number
abbrev IsAt : List ℕ → Hint → Type 0
IsAt lanes h = get_elem? lanes h.number ≡ some h.lane

abbrev bit : Bool → ℕ
bit b = cond b 1 0

numbered_push : (number : ℕ) (hints : List Hint) (h : Hint)
    → numbered number (hints ++ h ∷ []) ≡ numbered number hints + bit (eqb number h.number)
numbered_push number hints h = sum_by_push (λ (x : Hint). cond (eqb number x.number) 1 0) hints h

numbered-append : (number : ℕ) (xs ys : List Hint)
    → numbered number (xs ++ ys) ≡ numbered number xs + numbered number ys
numbered-append number xs ys = sum_by-append (λ (x : Hint). cond (eqb number x.number) 1 0) xs ys

-- at first there is no hint
pub nothing : (hints_of : Hand → List Hint) → hints_of first_hand ≡ [] → AreNumbered hints_of [] (first_hand ∷ [])
nothing hints_of none = record {
  once = λ number below. absurd (omega arith);
  no_more = λ number _. ap (λ hints. 0 + numbered number hints) none;
  at_place = first;
}
  where
    first : (pass : ℕ) (v : Hand) → get_elem? (first_hand ∷ []) pass ≡ some v → All (IsAt []) (hints_of v)
    first zero v at = subst (λ (z : Hand). All (IsAt []) (hints_of z)) (some-injective first_hand v at)
        (All-same (IsAt []) (hints_of first_hand) [] none (All-nil (IsAt [])))
    first (suc pass) v at = absurd (some-ne-none v (sym at))

-- one pass knows something else now
at_place_set : (hints_of : Hand → List Hint) (lanes : List ℕ) (views : List Hand) (pass : ℕ) (w : Hand)
    → All (IsAt lanes) (hints_of w)
    → ((i : ℕ) (u : Hand) → get_elem? views i ≡ some u → All (IsAt lanes) (hints_of u))
    → (i : ℕ) (u : Hand) → get_elem? (set views pass w) i ≡ some u → All (IsAt lanes) (hints_of u)
at_place_set hints_of lanes views pass w mine others i u at = ⊎_elim
    (λ (p : (i ≡ pass) × (w ≡ u)). subst (λ (z : Hand). All (IsAt lanes) (hints_of z)) p.1 mine)
    (λ p. others i u p.1) (at_set views pass i w u at)

-- a pass keeps its hints
pub stays : (hints_of : Hand → List Hint) (lanes : List ℕ) (views : List Hand) (pass : ℕ) (v w : Hand)
    → get_elem? views pass ≡ some v
    → hints_of w ≡ hints_of v → AreNumbered hints_of lanes views → AreNumbered hints_of lanes (set views pass w)
stays hints_of lanes views pass v w at same r = record {
  once = λ number below. let e = even number in let o = r.once number below in omega arith;
  no_more = λ number above. let e = even number in let o = r.no_more number above in omega arith;
  at_place =
      at_place_set hints_of lanes views pass w
      (All-same (IsAt lanes) (hints_of w) (hints_of v) same (r.at_place pass v at)) r.at_place;
}
  where
    even : (number : ℕ)
        → sum_by (λ z. numbered number (hints_of z)) (set views pass w)
        ≡ sum_by (λ z. numbered number (hints_of z)) views
    even number = let s = sum_after (λ (z : Hand). numbered number (hints_of z)) views pass v w at in
        let e : numbered number (hints_of w) ≡ numbered number (hints_of v) = ap (numbered number) same in omega arith

-- a pass has the next hint
pub grows : (hints_of : Hand → List Hint) (lanes : List ℕ) (views : List Hand) (pass : ℕ) (v w : Hand) (lane : ℕ)
    → get_elem? views pass ≡ some v
    → hints_of w ≡ hints_of v ++ hint (length lanes) lane ∷ [] → AreNumbered hints_of lanes views
    → AreNumbered hints_of (lanes ++ lane ∷ []) (set views pass w)
grows hints_of lanes views pass v w lane at more r = record {
  once = λ number below. let l = length_push lanes lane in let m = one_more number in ⊎_elim
      (λ (here : (eqb number (length lanes) ≡ true) × (number ≡ length lanes)).
      let one : bit (eqb number (length lanes)) ≡ 1 = ap bit here.0 in let o = r.no_more number (let e = here.1 in
      omega arith) in omega arith)
      (λ (there : (eqb number (length lanes) ≡ false) × (number ≢ length lanes)).
      let none : bit (eqb number (length lanes)) ≡ 0 = ap bit there.0 in let o = r.once number (let e = there.1 in
      omega arith) in omega arith)
      (eqb_tells number (length lanes));
  no_more = λ number above. let l = length_push lanes lane in let m = one_more number in
      let none : bit (eqb number (length lanes)) ≡ 0 = ap bit (ne_eqb number (length lanes) (λ e. omega arith)) in
      let o = r.no_more number (omega arith) in omega arith;
  at_place = at_place_set hints_of longer views pass w
      (All-same (IsAt longer) (hints_of w) (hints_of v ++ hint (length lanes) lane ∷ []) more
      (All-push (IsAt longer) (hints_of v) (hint (length lanes) lane) (further v (r.at_place pass v at)) (at_last lanes lane (length lanes) refl)))
      (λ i u there. further u (r.at_place i u there));
}
  where
    longer : List ℕ
    longer = lanes ++ lane ∷ []

    one_more : (number : ℕ) → sum_by (λ z. numbered number (hints_of z)) (set views pass w)
        ≡ sum_by (λ z. numbered number (hints_of z)) views + bit (eqb number (length lanes))
    one_more number = let s = sum_after (λ (z : Hand). numbered number (hints_of z)) views pass v w at in
        let e : numbered number (hints_of w) ≡ numbered number (hints_of v) + bit (eqb number (length lanes)) =
        ap (numbered number) more ∙ numbered_push number (hints_of v) (hint (length lanes) lane) in omega arith

    further : (u : Hand) → All (IsAt lanes) (hints_of u) → All (IsAt (lanes ++ lane ∷ [])) (hints_of u)
    further u all =
        All-weaker (IsAt lanes) (IsAt (lanes ++ lane ∷ [])) (λ h e. at_longer lanes (lane ∷ []) h.number h.lane e)
        (hints_of u) all

-- a new pass has no hint
pub newcomer : (hints_of : Hand → List Hint) (lanes : List ℕ) (views : List Hand) (new : Hand) → hints_of new ≡ []
    → AreNumbered hints_of lanes views
    → AreNumbered hints_of lanes (views ++ new ∷ [])
newcomer hints_of lanes views new none r = record {
  once = λ number below. let e = even number in let o = r.once number below in omega arith;
  no_more = λ number above. let e = even number in let o = r.no_more number above in omega arith;
  at_place = λ i u there. ⊎_elim (r.at_place i u)
      (λ (e : new ≡ u).
      subst (λ (z : Hand). All (IsAt lanes) (hints_of z)) e
      (All-same (IsAt lanes) (hints_of new) [] none (All-nil (IsAt lanes))))
      (at_snoc views new u i there);
}
  where
    even : (number : ℕ)
        → sum_by (λ z. numbered number (hints_of z)) (views ++ new ∷ [])
        ≡ sum_by (λ z. numbered number (hints_of z)) views
    even number = let p = sum_by_push (λ (z : Hand). numbered number (hints_of z)) views new in
        let e : numbered number (hints_of new) ≡ 0 = ap (numbered number) none in omega arith

-- a pass takes in the hints of another, which has none then
pub joins : (hints_of : Hand → List Hint) (lanes : List ℕ) (views : List Hand) (pass : ℕ) (v both : Hand) (other : ℕ)
    (w : Hand) → get_elem? views pass ≡ some v → get_elem? (set views pass both) other ≡ some w →
    All (IsAt lanes) (hints_of w) → hints_of both ≡ hints_of v ++ hints_of w → hints_of spent_hand ≡ [] →
    AreNumbered hints_of lanes views → AreNumbered hints_of lanes (set (set views pass both) other spent_hand)
joins hints_of lanes views pass v both other w at there theirs sum none r = record {
  once = λ number below. let e = even number in let o = r.once number below in omega arith;
  no_more = λ number above. let e = even number in let o = r.no_more number above in omega arith;
  at_place =
      at_place_set hints_of lanes (set views pass both) other spent_hand
      (All-same (IsAt lanes) (hints_of spent_hand) [] none (All-nil (IsAt lanes)))
      (at_place_set hints_of lanes views pass both
      (All-same (IsAt lanes) (hints_of both) (hints_of v ++ hints_of w) sum
      (All-append (IsAt lanes) (hints_of v) (hints_of w) (r.at_place pass v at) theirs))
      r.at_place);
}
  where
    even : (number : ℕ) → sum_by (λ z. numbered number (hints_of z)) (set (set views pass both) other spent_hand)
        ≡ sum_by (λ z. numbered number (hints_of z)) views
    even number = let s = sum_after (λ (z : Hand). numbered number (hints_of z)) views pass v both at in
        let t = sum_after (λ (z : Hand). numbered number (hints_of z)) (set views pass both) other w spent_hand there in
        let e : numbered number (hints_of both) ≡ numbered number (hints_of v) + numbered number (hints_of w) =
        ap (numbered number) sum ∙ numbered-append number (hints_of v) (hints_of w) in
        let z : numbered number (hints_of spent_hand) ≡ 0 = ap (numbered number) none in omega arith

-- the next hint comes after all that there are
pub after_all : (lanes : List ℕ) (hints : List Hint) → All (IsAt lanes) hints → IsAfter (length lanes) hints
after_all lanes hints all =
    All-weaker (IsAt lanes) (λ h. h.number < length lanes) (λ h e. at_below lanes h.number h.lane e) hints all

-- no pass has two hints of one number
pub apart : (hints_of : Hand → List Hint) (lanes : List ℕ) (views : List Hand) (pass : ℕ) (v : Hand)
    → hints_of spent_hand ≡ [] → get_elem? views pass ≡ some v
    → AreNumbered hints_of lanes views → AreApart (hints_of v)
apart hints_of lanes views pass v none at r number =
    let p = part_of_sum (λ (z : Hand). numbered number (hints_of z)) views pass v (ap (numbered number) none) at in
    ⊎_elim (λ below. let o = r.once number below in omega arith) (λ above. let o = r.no_more number above in
    omega arith) (cases_lt number (length lanes))

-- hints of one number have one lane
pub as_hinted : (out items : List ℕ) (hinted taken : List Hint) → All (IsAt (out ++ items)) hinted
    → All (IsAt out) taken → AreAsHinted hinted taken
as_hinted out items hinted taken a b made came in_hinted in_taken same =
    let h : get_elem? (out ++ items) made.number ≡ some made.lane =
    All-contains (IsAt (out ++ items)) hinted made a in_hinted in
    let t : get_elem? out came.number ≡ some came.lane = All-contains (IsAt out) taken came b in_taken in
    let t' : get_elem? (out ++ items) came.number ≡ some came.lane = at_longer out items came.number came.lane t in
    some-injective made.lane came.lane (sym h ∙ (ap (get_elem? (out ++ items)) same ∙ t'))

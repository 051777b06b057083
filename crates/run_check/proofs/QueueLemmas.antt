-- Spots in their order, and two tables that say the same.
use Rattle.std.proofs.Common.{◌≡◌, ℕ, ◌<◌, ◌≤◌, refl, ap, sym, ◌∙◌, inl, inr, ⊎_elim, arith}
use Rattle.std.proofs.lemmas.Bool.{cases_Bool, eqb-true, eq-eqb, le-ltb, cond_both}
use Rattle.std.proofs.lemmas.Cmp.{ranked}
use Rattle.std.proofs.lemmas.Map.Lookups.{exact_pairs, exact_unsigned}
use Rattle.std.specs.Prelude.{Bool, true, false, cond, ◌==◌, ◌⊎◌, Option, Some, None, IsSomeAnd, IfSome, nat_lt}
use Rattle.std.specs.Ordering.{nat_cmp, ordering_then, is_gt, is_eq, MatchOrdering}
use Rattle.std.specs.declared.cmp.Ordering.{Ordering}
use Rattle.std.specs.declared.cmp.Ordering.TheVariants.{Less, Equal, Greater}
use Rattle.std.specs.BTreeMap.Range.{IsLeBy}
use Rattle.run_check.specs.Queues.{spot_cmp, on_strand}

abbrev pub same_spot : ℕ × ℕ → ℕ × ℕ → Bool
same_spot one other = is_eq (spot_cmp one other)

nat_cmp-self : (x : ℕ) → nat_cmp x x ≡ Equal
nat_cmp-self x = let l : nat_lt x x ≡ false = le-ltb x x (omega arith) in let e : (x == x) ≡ true = eq-eqb x x refl in
    rw (l, e) refl

pub same_spot-self : (spot : ℕ × ℕ) → same_spot spot spot ≡ true
same_spot-self spot = ap (λ (o : Ordering). is_eq (ordering_then o (nat_cmp spot.1 spot.1))) (nat_cmp-self spot.0)
    ∙ ap is_eq (nat_cmp-self spot.1)

is_eq-is : (o : Ordering) → is_eq o ≡ true → o ≡ Equal
is_eq-is Less is = cc
is_eq-is Equal is = refl
is_eq-is Greater is = cc

pub same_spot-is : (one other : ℕ × ℕ) → same_spot one other ≡ true → one ≡ other
same_spot-is one other is = exact_pairs nat_cmp nat_cmp exact_unsigned exact_unsigned one other (is_eq-is (spot_cmp one other) is)

le_by : (a b c d : ℕ) (r s : Ordering) → MatchOrdering r (a < b) (a ≡ b) (b < a) → MatchOrdering s (c < d) (c ≡ d) (d < c)
    → is_gt (ordering_then r s) ≡ false → (a < b) ⊎ ((a ≡ b) × (c ≤ d))
le_by a b c d Less s first second le = inl first
le_by a b c d Equal Less first second le = inr (first, omega arith)
le_by a b c d Equal Equal first second le = inr (first, omega arith)
le_by a b c d Equal Greater first second le = cc
le_by a b c d Greater s first second le = cc

-- what it means that a spot isn't after another one
pub spot_le : (one other : ℕ × ℕ) → IsLeBy spot_cmp one other → (one.0 < other.0) ⊎ ((one.0 ≡ other.0) × (one.1 ≤ other.1))
spot_le one other le =
    le_by one.0 other.0 one.1 other.1 (nat_cmp one.0 other.0) (nat_cmp one.1 other.1)
    (ranked one.0 other.0 (nat_cmp one.0 other.0) refl) (ranked one.1 other.1 (nat_cmp one.1 other.1) refl) le

not_above : (a b : ℕ) (r : Ordering) → MatchOrdering r (a < b) (a ≡ b) (b < a) → a ≤ b → is_gt r ≡ false
not_above a b Less order le = refl
not_above a b Equal order le = refl
not_above a b Greater order le = absurd (omega arith)

-- a strand's spots come after its first one
pub spot_from : (strand place : ℕ) → IsLeBy spot_cmp (strand, 0) (strand, place)
spot_from strand place =
    ap (λ (o : Ordering). is_gt (ordering_then o (nat_cmp 0 place))) (nat_cmp-self strand)
    ∙ not_above 0 place (nat_cmp 0 place) (ranked 0 place (nat_cmp 0 place) refl) (omega arith)

-- the first entry from a strand's start on is the strand's first
pub first_least : (strand place : ℕ) (found : Option ((ℕ × ℕ) × ℕ)) → IfSome found (λ e. IsLeBy spot_cmp (strand, 0) e.0)
    → IsSomeAnd found (λ e. IsLeBy spot_cmp e.0 (strand, place))
    → IsSomeAnd (on_strand strand found) (λ first. first.0 ≤ place)
first_least strand place None within least = least
first_least strand place (Some e) within least =
    ⊎_elim
    (λ (above : strand < e.0.0). ⊎_elim (λ (below : e.0.0 < strand). absurd (omega arith)) (λ same. let s : e.0.0 ≡ strand =
    same.0 in absurd (omega arith)) (spot_le e.0 (strand, place) least))
    (λ same. let here : (e.0.0 == strand) ≡ true = eq-eqb e.0.0 strand (sym same.0) in
    let s : strand ≡ e.0.0 = same.0 in
    rw here (⊎_elim (λ (below : e.0.0 < strand). absurd (omega arith)) (λ le. le.1) (spot_le e.0 (strand, place) least)))
    (spot_le (strand, 0) e.0 within)

pub first_stands : (strand : ℕ) (f : ℕ → Option (ℕ × ℕ)) (found : Option ((ℕ × ℕ) × ℕ)) → IfSome found (λ e. f e.1 ≡ Some e.0)
    → IfSome (on_strand strand found) (λ first. f first.1 ≡ Some (strand, first.0))
first_stands strand f None at = tt
first_stands strand f (Some e) at =
    cond_both (e.0.0 == strand) (Some (e.0.1, e.1)) None
    (λ (o : Option (ℕ × ℕ)). IfSome o (λ first. f first.1 ≡ Some (strand, first.0)))
    (λ here. at ∙ ap (λ (s : ℕ). Some (s, e.0.1)) (eqb-true e.0.0 strand here)) (λ elsewhere. tt)

-- two tables that say the same
pub record AreInverse (f : ℕ → Option (ℕ × ℕ)) (g : ℕ × ℕ → Option ℕ) : Type 0 where
  pub found : (op : ℕ) (spot : ℕ × ℕ) → f op ≡ Some spot → g spot ≡ Some op
  pub stands : (op : ℕ) (spot : ℕ × ℕ) → g spot ≡ Some op → f op ≡ Some spot

some_is : (a b : ℕ) → Some a ≡ Some b → a ≡ b
some_is a b e = cc

spot_is : (a b : ℕ × ℕ) → Some a ≡ Some b → a ≡ b
spot_is a b e = cc

pub inverse_put : (f h : ℕ → Option (ℕ × ℕ)) (g k : ℕ × ℕ → Option ℕ) (op : ℕ) (spot : ℕ × ℕ) → AreInverse f g → f op ≡ None
    → ((other : ℕ) → f other ≡ Some spot → ⊥)
    → ((q : ℕ) → h q ≡ cond (op == q) (Some spot) (f q)) → ((q : ℕ × ℕ) → k q ≡ cond (same_spot spot q) (Some op) (g q))
    → AreInverse h k
inverse_put f h g k op spot inverse absent unused hs ks = record {
  found = λ other at is. ⊎_elim
      (λ (here : (op == other) ≡ true). let there : Some spot ≡ Some at = let e : h other ≡ Some spot = hs other
      ∙ rw here refl in sym e ∙ is in
      let same : spot ≡ at = spot_is spot at there in let o : op ≡ other = eqb-true op other here in
      let at_own : k spot ≡ Some op = ks spot ∙ rw (same_spot-self spot) refl in
      sym (ap k same) ∙ at_own ∙ ap Some o)
      (λ (apart : (op == other) ≡ false). let before : f other ≡ Some at = let e : h other ≡ f other = hs other
      ∙ rw apart refl in sym e ∙ is in
      ⊎_elim (λ (same : same_spot spot at ≡ true). absurd (unused other (before ∙ ap Some (sym (same_spot-is spot at same)))))
      (λ (ne : same_spot spot at ≡ false). let e : k at ≡ g at = ks at ∙ rw ne refl in e
      ∙ inverse.found other at before) (cases_Bool (same_spot spot at)))
      (cases_Bool (op == other));
  stands = λ other at is. ⊎_elim
      (λ (same : same_spot spot at ≡ true). let there : Some op ≡ Some other = let e : k at ≡ Some op = ks at ∙ rw same refl in
      sym e ∙ is in
      let o : op ≡ other = some_is op other there in let here : (op == other) ≡ true = eq-eqb op other o in
      let e : h other ≡ Some spot = hs other ∙ rw here refl in e ∙ ap Some (same_spot-is spot at same))
      (λ (ne : same_spot spot at ≡ false). let before : g at ≡ Some other = let e : k at ≡ g at = ks at ∙ rw ne refl in sym e
      ∙ is in
      let stood : f other ≡ Some at = inverse.stands other at before in
      ⊎_elim (λ (here : (op == other) ≡ true). let o : op ≡ other = eqb-true op other here in
      absurd (none_some at (sym absent ∙ ap f o ∙ stood)))
      (λ (apart : (op == other) ≡ false). let e : h other ≡ f other = hs other ∙ rw apart refl in e
      ∙ stood) (cases_Bool (op == other)))
      (cases_Bool (same_spot spot at));
}
  where
    none_some : (at : ℕ × ℕ) → None ≡ Some at → ⊥
    none_some at e = cc

pub inverse_take_out : (f h : ℕ → Option (ℕ × ℕ)) (g k : ℕ × ℕ → Option ℕ) (op : ℕ) (spot : ℕ × ℕ) → AreInverse f g
    → f op ≡ Some spot
    → ((q : ℕ) → h q ≡ cond (op == q) None (f q)) → ((q : ℕ × ℕ) → k q ≡ cond (same_spot spot q) None (g q)) → AreInverse h k
inverse_take_out f h g k op spot inverse stood hs ks = record {
  found = λ other at is. ⊎_elim
      (λ (here : (op == other) ≡ true). absurd (none_some at (let e : h other ≡ None = hs other ∙ rw here refl in sym e ∙ is)))
      (λ (apart : (op == other) ≡ false). let before : f other ≡ Some at = let e : h other ≡ f other = hs other
      ∙ rw apart refl in sym e ∙ is in
      ⊎_elim (λ (same : same_spot spot at ≡ true). let own : g at ≡ Some op = ap g (sym (same_spot-is spot at same))
      ∙ inverse.found op spot stood in
      let o : op ≡ other = some_is op other (sym own ∙ inverse.found other at before) in let here : (op == other) ≡ true =
      eq-eqb op other o in absurd (true_false (sym here ∙ apart)))
      (λ (ne : same_spot spot at ≡ false). let e : k at ≡ g at = ks at ∙ rw ne refl in e
      ∙ inverse.found other at before) (cases_Bool (same_spot spot at)))
      (cases_Bool (op == other));
  stands = λ other at is. ⊎_elim
      (λ (same : same_spot spot at ≡ true). absurd (none_one other (let e : k at ≡ None = ks at ∙ rw same refl in sym e ∙ is)))
      (λ (ne : same_spot spot at ≡ false). let before : g at ≡ Some other = let e : k at ≡ g at = ks at ∙ rw ne refl in sym e
      ∙ is in
      let there : f other ≡ Some at = inverse.stands other at before in
      ⊎_elim (λ (here : (op == other) ≡ true). let o : op ≡ other = eqb-true op other here in
      let same : spot ≡ at = spot_is spot at (sym stood ∙ ap f o ∙ there) in
      absurd (true_false (sym (ap (same_spot spot) (sym same) ∙ same_spot-self spot) ∙ ne)))
      (λ (apart : (op == other) ≡ false). let e : h other ≡ f other = hs other ∙ rw apart refl in e
      ∙ there) (cases_Bool (op == other)))
      (cases_Bool (same_spot spot at));
}
  where
    none_some : (at : ℕ × ℕ) → None ≡ Some at → ⊥
    none_some at e = cc

    none_one : (n : ℕ) → None ≡ Some n → ⊥
    none_one n e = cc

    true_false : true ≡ false → ⊥
    true_false e = cc

pub if_stands : (f : ℕ → Option (ℕ × ℕ)) (g : ℕ × ℕ → Option ℕ)
    → ((op : ℕ) (spot : ℕ × ℕ) → g spot ≡ Some op → f op ≡ Some spot) → (found : Option ((ℕ × ℕ) × ℕ))
    → IfSome found (λ e. g e.0 ≡ Some e.1)
    → IfSome found (λ e. f e.1 ≡ Some e.0)
if_stands f g stands None at = tt
if_stands f g stands (Some e) at = stands e.1 e.0 at

-- Each line stands behind its causes.
use Rattle.std.proofs.Common.{◌≡◌, ◌+◌, ℕ, suc, List, [], ◌∷◌, ◌<◌, ◌≤◌, refl, ap, sym, subst, ◌∙◌, inl, inr, ⊎_elim, length, take, get_or, arith}
use Rattle.std.proofs.lemmas.List.{take_all}
use Rattle.std.proofs.Math.Nat.{le-max_left, le-max_right}
use Rattle.std.proofs.lemmas.Bool.{and_parts, cond_both, eq-eqb, eqb-true}
use Rattle.std.proofs.lemmas.List.Elements.{All-contains, All-get_or, All-more, All-nil, All-push, All-same, All-weaker, Contains-append_left, Contains-push}
use Rattle.std.specs.List.{All, Contains}
use Rattle.std.specs.Prelude.{Bool, true, false, ◌==◌, ◌&&◌, ◌||◌, ◌⊎◌, ◌↔◌, if◌then◌else◌, IsTrue, IsSomeAnd, Option, Some, None, is_some, max, nat_eq}
use Rattle.std.specs.Option.{is_none, option_map}
use Rattle.run_lines.specs.declared.code.Code.TheVariants as code
use Rattle.run_lines.specs.declared.line.Doing.{Doing}
use Rattle.run_lines.specs.declared.line.Doing.TheVariants as doing
use Rattle.run_lines.specs.declared.line.Line.{Line}
use Rattle.run_rules.specs.declared.frame.Frame.{Frame}
use Rattle.run_rules.specs.declared.frame.Frame.TheVariants.{Execution, Outside}
use Rattle.run_rules.specs.Against.{calls, completes}
use Rattle.run_rules.specs.Calls.{begins, done_of}
use Rattle.run_rules.specs.MayCome.{MayDo}
use Rattle.run_rules.specs.Legal.{IsLegalSoFar}
use Rattle.run_rules.specs.Stacks.{first_of, frame_of, outer, same_frame, stack, stack_after}
use Rattle.run_check.specs.After.{loose, waiter_from}
use Rattle.run_check.specs.Called.{called_by}
use Rattle.run_check.specs.declared.waiting.Waiter.{Waiter}
use Rattle.run_orders.specs.Causes.{Aborts, Enables, IsCause, Leads, Leaves, Wakes, ends, takes_up}
use Rattle.run_orders.specs.Trees.{Spot, around, around_by, frame_by, root, spot_at, tree}
use Rattle.run_orders.proofs.TreeLemmas.{found, some_same}
use Rattle.run_witness.specs.Causes.{AbortsBefore, AreCauses, AreNoted, IsBehind, IsBehindIfPut, IsHarmless, IsNoted, IsNotedCancel, NamesBefore, NotesLine, SeesLine, cancelled_with, completed_by, left_by, marked_by}
use Rattle.run_witness.specs.Facts.{AreFacts, begun_by, ends_outside, fact_at, fact_of}
use Rattle.run_witness.specs.Placing.{position_of}
use Rattle.run_witness.specs.Reached.{Covers, IsBefore, NotesAt, later_of, reached_at, reached_with}
use Rattle.run_witness.specs.Witness.{AreBehind, IsLineBehind}
use Rattle.run_witness.specs.declared.causes.Cancelled.{Cancelled}
use Rattle.run_witness.specs.declared.causes.Causes.{Causes}
use Rattle.run_witness.specs.declared.facts.Fact.{Fact}
use Rattle.run_witness.specs.declared.facts.Facts.{Facts}
use Rattle.run_witness.specs.declared.placing.Placing.{Placing}
use Rattle.run_witness.proofs.ExecutionsLemmas.{calls_it, calls_so}
use Rattle.run_witness.proofs.StandingLemmas.{outside_tree, waiter_call}
use Rattle.run_witness.proofs.PlacingLemmas.{begun_call_is, frame_is, frame_same, legal_at, no_root, spot_of_fact}

-- what is kept at a key

covers_more : (o : Option (Option ℕ)) (at place : Option ℕ) → Covers o place → Covers (Some (reached_with o at)) place
covers_more None at place covers = absurd covers
covers_more (Some None) None place covers = tt
covers_more (Some None) (Some a) place covers = tt
covers_more (Some (Some most)) None place covers = tt
covers_more (Some (Some most)) (Some a) None covers = absurd covers
covers_more (Some (Some most)) (Some a) (Some p) covers =
    let less : p ≤ most = covers in
    let more : most ≤ max most a = le-max_left most a in
    omega arith

covers_here : (o : Option (Option ℕ)) (at : Option ℕ) → Covers (Some (reached_with o at)) at
covers_here None None = tt
covers_here None (Some a) = omega arith
covers_here (Some None) None = tt
covers_here (Some None) (Some a) = tt
covers_here (Some (Some most)) None = tt
covers_here (Some (Some most)) (Some a) = le-max_right most a

before_covered : (o : Option (Option ℕ)) (place : Option ℕ) (bound : ℕ) → Covers o place → IsBefore o bound
    → IsSomeAnd place (λ at. at < bound)
before_covered None place bound covers before = absurd covers
before_covered (Some None) place bound covers before = absurd before
before_covered (Some (Some most)) None bound covers before = absurd covers
before_covered (Some (Some most)) (Some at) bound covers before =
    let less : at ≤ most = covers in
    let more : most < bound = before in
    omega arith

noted : (old new : ℕ → Option (Option ℕ)) (key at : Option ℕ) → NotesAt old new key at → (k : ℕ) (place : Option ℕ)
    → Covers (old k) place → Covers (new k) place
noted old new None at notes k place covers = subst (λ (o : Option (Option ℕ)). Covers o place) (sym (notes k)) covers
noted old new (Some key) at notes k place covers =
    subst (λ (o : Option (Option ℕ)). Covers o place) (sym (notes k))
    (cond_both (key == k) (Some (reached_with (old key) at)) (old k) (λ (o : Option (Option ℕ)). Covers o place)
    (λ here. covers_more (old key) at place
    (subst (λ (n : ℕ). Covers (old n) place) (sym (eqb-true key k here)) covers))
    (λ elsewhere. covers))

noted_here : (old new : ℕ → Option (Option ℕ)) (key : ℕ) (at : Option ℕ) → NotesAt old new (Some key) at
    → Covers (new key) at
noted_here old new key at notes =
    let chosen : (if key == key then Some (reached_with (old key) at) else old key) ≡ Some (reached_with (old key) at) =
    rw (eq-eqb key key refl) refl in
    let here : new key ≡ Some (reached_with (old key) at) = notes key ∙ chosen in
    subst (λ (o : Option (Option ℕ)). Covers o at) (sym here) (covers_here (old key) at)

-- one line more is noted

last_or_before : (place count : ℕ) → place < count + 1 → (place < count) ⊎ (place ≡ count)
last_or_before place count less = grind (arith)

same_at : (run : List Line) (place count : ℕ) (first spot : Spot) → place ≡ count → spot_at run place ≡ Some first
    → spot_at run count ≡ Some spot → first ≡ spot
same_at run place count first spot same there here = some_same first spot (sym there ∙ ap (spot_at run) same ∙ here)

covered : (old new : ℕ → Option (Option ℕ)) (key_of : Doing → Option ℕ) (placing : Placing) (run : List Line)
    (count : ℕ) (spot : Spot)
    → spot_at run count ≡ Some spot → NotesAt old new (key_of spot.line.does) (position_of placing count)
    → ((place op : ℕ) (first : Spot) → place < count → spot_at run place ≡ Some first → key_of first.line.does ≡ Some op →
    Covers (old op) (position_of placing place))
    → (place op : ℕ) (first : Spot) → place < count + 1 → spot_at run place ≡ Some first → key_of first.line.does ≡ Some op
    → Covers (new op) (position_of placing place)
covered old new key_of placing run count spot here notes were place op first less there is =
    ⊎_elim
    (λ (before : place < count). noted old new (key_of spot.line.does) (position_of placing count) notes op
    (position_of placing place)
    (were place op first before there is))
    (λ (same : place ≡ count).
    let key : key_of spot.line.does ≡ Some op =
    ap (λ (s : Spot). key_of s.line.does) (sym (same_at run place count first spot same there here)) ∙ is in
    subst (λ (p : ℕ). Covers (new op) (position_of placing p)) (sym same)
    (noted_here old new op (position_of placing count)
    (subst (λ (k : Option ℕ). NotesAt old new k (position_of placing count)) key notes)))
    (last_or_before place count less)

covered_tree : (apart : List ℕ) (placing : Placing) (run : List Line) (count : ℕ) (spot : Spot) (old new : Causes)
    (tree_of : Frame)
    → spot_at run count ≡ Some spot → tree_of ≡ tree apart spot
    → ((other : Frame) → reached_at same_frame new.trees other
    ≡ (if same_frame tree_of other
    then Some (reached_with (reached_at same_frame old.trees tree_of) (position_of placing count))
    else reached_at same_frame old.trees other))
    → ((place : ℕ) (first : Spot) → place < count → spot_at run place ≡ Some first →
    Covers (reached_at same_frame old.trees (tree apart first)) (position_of placing place))
    → (place : ℕ) (first : Spot) → place < count + 1 → spot_at run place ≡ Some first
    → Covers (reached_at same_frame new.trees (tree apart first)) (position_of placing place)
covered_tree apart placing run count spot old new tree_of here is notes were place first less there =
    subst (λ (o : Option (Option ℕ)). Covers o (position_of placing place)) (sym (notes (tree apart first)))
    (cond_both (same_frame tree_of (tree apart first))
    (Some (reached_with (reached_at same_frame old.trees tree_of) (position_of placing count)))
    (reached_at same_frame old.trees (tree apart first)) (λ (o : Option (Option ℕ)). Covers o (position_of placing place))
    (λ same. ⊎_elim
    (λ (before : place < count). covers_more (reached_at same_frame old.trees tree_of) (position_of placing count)
    (position_of placing place)
    (subst (λ (f : Frame). Covers (reached_at same_frame old.trees f) (position_of placing place))
    (sym (frame_is tree_of (tree apart first) same)) (were place first before there)))
    (λ (last : place ≡ count). subst
    (λ (p : ℕ). Covers (Some (reached_with (reached_at same_frame old.trees tree_of) (position_of placing count)))
    (position_of placing p))
    (sym last) (covers_here (reached_at same_frame old.trees tree_of) (position_of placing count)))
    (last_or_before place count less))
    (λ distinct. ⊎_elim
    (λ (before : place < count). were place first before there)
    (λ (last : place ≡ count).
    let e : same_frame tree_of (tree apart first) ≡ true =
    frame_same tree_of (tree apart first) (is ∙ ap (tree apart) (sym
    (same_at run place count first spot last there here))) in
    let f : true ≡ false = sym e ∙ distinct in cc)
    (last_or_before place count less)))

left_here : (fact : Fact) → fact.leaves ≡ true → left_by fact ≡ Some fact.line.thread
left_here fact is = rw is refl

covered_left : (apart : List ℕ) (thing : ℕ) (placing : Placing) (run : List Line) (count : ℕ) (spot : Spot)
    (old new : Causes)
    → spot_at run count ≡ Some spot
    → NotesAt (reached_at nat_eq old.left) (reached_at nat_eq new.left) (left_by (fact_of apart thing spot))
    (position_of placing count)
    → ((place : ℕ) (first : Spot) → place < count → spot_at run place ≡ Some first → IsTrue (ends_outside first) →
    Covers (reached_at nat_eq old.left first.line.thread) (position_of placing place))
    → (place : ℕ) (first : Spot) → place < count + 1 → spot_at run place ≡ Some first → IsTrue (ends_outside first)
    → Covers (reached_at nat_eq new.left first.line.thread) (position_of placing place)
covered_left apart thing placing run count spot old new here notes were place first less there is =
    ⊎_elim
    (λ (before : place < count). noted (reached_at nat_eq old.left) (reached_at nat_eq new.left) (left_by
    (fact_of apart thing spot))
    (position_of placing count) notes first.line.thread (position_of placing place) (were place first before there is))
    (λ (last : place ≡ count).
    let same : first ≡ spot = same_at run place count first spot last there here in
    let key : left_by (fact_of apart thing spot) ≡ Some first.line.thread =
    ap (λ (s : Spot). left_by (fact_of apart thing s)) (sym same) ∙ left_here (fact_of apart thing first) is in
    subst (λ (p : ℕ). Covers (reached_at nat_eq new.left first.line.thread) (position_of placing p)) (sym last)
    (noted_here (reached_at nat_eq old.left) (reached_at nat_eq new.left) first.line.thread (position_of placing count)
    (subst (λ (k : Option ℕ). NotesAt (reached_at nat_eq old.left) (reached_at nat_eq new.left) k
    (position_of placing count)) key notes)))
    (last_or_before place count less)

cancelled_stays : (all : List Cancelled) (place : ℕ) (at : Option ℕ) (does : Doing) (one : Cancelled) → Contains all one
    → Contains (cancelled_with all place at does) one
cancelled_stays all place at (doing.Cancel thing) one is =
    Contains-append_left all (record { thing = thing; place = place; at = at } ∷ []) one is
cancelled_stays all place at _ one is = is

-- nothing else is noted

noted_more : (run : List Line) (placing : Placing) (count : ℕ) (Has : Spot → Type 0) (at : Option ℕ)
    → IsNoted run placing count Has at
    → IsNoted run placing (count + 1) Has at
noted_more run placing count Has at was = record {
  place = was.place;
  first = was.first;
  before = (let less : was.place < count = was.before in omega arith);
  there = was.there;
  here = was.here;
  has = was.has;
}

noted_now : (run : List Line) (placing : Placing) (count : ℕ) (spot : Spot) (Has : Spot → Type 0)
    → spot_at run count ≡ Some spot
    → Has spot → IsNoted run placing (count + 1) Has (position_of placing count)
noted_now run placing count spot Has here has =
    record { place = count; first = spot; before = omega arith; there = here; here = refl; has = has }

max_is : (one other : ℕ) → (max one other ≡ one) ⊎ (max one other ≡ other)
max_is one other = grind (arith)

later_is : (one other : Option ℕ) → (later_of one other ≡ one) ⊎ (later_of one other ≡ other)
later_is None other = inl refl
later_is (Some one) None = inr refl
later_is (Some one) (Some other) =
    ⊎_elim (λ first. inl (ap Some first)) (λ second. inr (ap Some second)) (max_is one other)

-- what is kept at a key is of what was kept there, or of the line that is noted
one_of : {K : Type 0} (Is : K → Option ℕ → Type 0) (key : K) (was : Option (Option ℕ)) (at o : Option ℕ)
    → ((o : Option ℕ) → was ≡ Some o → Is key o) → Is key at → reached_with was at ≡ o → Is key o
one_of Is key None at o were here is = subst (λ (p : Option ℕ). Is key p) is here
one_of Is key (Some other) at o were here is =
    ⊎_elim (λ (old : later_of other at ≡ other). subst (λ (p : Option ℕ). Is key p) (sym old ∙ is) (were other refl))
    (λ (new : later_of other at ≡ at). subst (λ (p : Option ℕ). Is key p) (sym new ∙ is) here) (later_is other at)

kept_from : {K : Type 0} (eq : K → K → Bool) (same : (a b : K) → eq a b ≡ true → a ≡ b) (old new : K
    → Option (Option ℕ)) (key : K)
    (at : Option ℕ) (Is : K → Option ℕ → Type 0)
    → ((other : K) → new other ≡ (if eq key other then Some (reached_with (old key) at) else old other))
    → ((k : K) (o : Option ℕ) → old k ≡ Some o → Is k o) → Is key at → (k : K) (o : Option ℕ) → new k ≡ Some o → Is k o
kept_from {K = K} eq same old new key at Is notes were here k o is =
    cond_both (eq key k) (Some (reached_with (old key) at)) (old k) (λ (found : Option (Option ℕ)). found ≡ Some o → Is k o)
    (λ equal found. subst (λ (n : K). Is n o) (same key k equal)
    (one_of Is key (old key) at o (were key) here (some_same (reached_with (old key) at) o found)))
    (λ elsewhere found. were k o found) (sym (notes k) ∙ is)

kept_at : (old new : ℕ → Option (Option ℕ)) (key at : Option ℕ) (Is : ℕ → Option ℕ → Type 0) → NotesAt old new key at
    → ((k : ℕ) (o : Option ℕ) → old k ≡ Some o → Is k o) → ((k : ℕ) → key ≡ Some k → Is k at) → (k : ℕ) (o : Option ℕ)
    → new k ≡ Some o → Is k o
kept_at old new None at Is notes were here k o is = were k o (sym (notes k) ∙ is)
kept_at old new (Some key) at Is notes were here k o is =
    kept_from nat_eq eqb-true old new key at Is notes were (here key refl) k o is

left_is : (fact : Fact) (thread : ℕ) → left_by fact ≡ Some thread → (fact.line.thread ≡ thread) × (fact.leaves ≡ true)
left_is fact thread = cond_both fact.leaves (Some fact.line.thread) None
    (λ (o : Option ℕ). o ≡ Some thread → (fact.line.thread ≡ thread) × (fact.leaves ≡ true))
    (λ leaves is. (some_same fact.line.thread thread is, leaves)) (λ stays is. cc)

cancels_more : (run : List Line) (placing : Placing) (count : ℕ) (all : List Cancelled)
    → All (IsNotedCancel run placing count) all
    → All (IsNotedCancel run placing (count + 1)) all
cancels_more run placing count all were =
    All-weaker (IsNotedCancel run placing count) (IsNotedCancel run placing (count + 1))
    (λ one is. noted_more run placing count (λ first. (first.line.does ≡ doing.Cancel one.thing) ×
    (length first.past ≡ one.place)) one.at is)
    all were

cancel_noted : (run : List Line) (placing : Placing) (count : ℕ) (spot : Spot) (all : List Cancelled) (does : Doing)
    → spot_at run count ≡ Some spot → does ≡ spot.line.does → All (IsNotedCancel run placing count) all
    → All (IsNotedCancel run placing (count + 1)) (cancelled_with all count (position_of placing count) does)
cancel_noted run placing count spot all (doing.Cancel thing) here is were =
    All-push (IsNotedCancel run placing (count + 1)) all
    (record { thing = thing; place = count; at = position_of placing count })
    (cancels_more run placing count all were)
    (noted_now run placing count spot
    (λ first. (first.line.does ≡ doing.Cancel thing) × (length first.past ≡ count)) here (
      sym is,
      (found run count spot here).place_is,
    ))
cancel_noted run placing count spot all _ here is were = cancels_more run placing count all were

only_next : {apart : List ℕ} (thing : ℕ) (run : List Line) (placing : Placing) (count : ℕ) (old new : Causes)
    (spot : Spot) → spot_at run count ≡ Some spot
    → AreNoted run apart placing count old → NotesLine old new (fact_of apart thing spot) count (position_of placing count)
    → AreNoted run apart placing (count + 1) new
only_next {apart} thing run placing count old new spot here were notes = record {
  trees = kept_from same_frame frame_is (reached_at same_frame old.trees) (reached_at same_frame new.trees)
      (tree apart spot)
      (position_of placing count) (λ key at. IsNoted run placing (count + 1)
      (λ first. tree apart first ≡ key) at) notes.trees
      (λ key at is. noted_more run placing count (λ first. tree apart first ≡ key) at (were.trees key at is))
      (noted_now run placing count spot (λ first. tree apart first ≡ tree apart spot) here refl);
  called = kept_by called_by (reached_at nat_eq old.called) (reached_at nat_eq new.called) notes.called were.called;
  completed = kept_by completed_by (reached_at nat_eq old.completed)
      (reached_at nat_eq new.completed) notes.completed were.completed;
  marked = kept_by marked_by (reached_at nat_eq old.marked) (reached_at nat_eq new.marked) notes.marked were.marked;
  left = kept_at (reached_at nat_eq old.left) (reached_at nat_eq new.left) (left_by (fact_of apart thing spot))
      (position_of placing count)
      (λ thread at. IsNoted run placing (count + 1) (λ first. (first.line.thread ≡ thread) × IsTrue
      (ends_outside first)) at) notes.left
      (λ thread at is. noted_more run placing count (λ first. (first.line.thread ≡ thread) × IsTrue (ends_outside first)) at
      (were.left thread at is))
      (λ thread is. noted_now run placing count spot (λ first. (first.line.thread ≡ thread) × IsTrue
      (ends_outside first)) here
      (left_is (fact_of apart thing spot) thread is));
  cancelled = subst (λ (all : List Cancelled). All (IsNotedCancel run placing (count + 1)) all) (sym notes.cancelled)
      (cancel_noted run placing count spot old.cancelled.items spot.line.does here refl were.cancelled);
}
  where
    kept_by : (key_of : Doing → Option ℕ) (before after : ℕ → Option (Option ℕ))
        → NotesAt before after (key_of spot.line.does) (position_of placing count)
        → ((k : ℕ) (at : Option ℕ) → before k ≡ Some at → IsNoted run placing count
        (λ first. key_of first.line.does ≡ Some k) at)
        → (k : ℕ) (at : Option ℕ) → after k ≡ Some at → IsNoted run placing (count + 1)
        (λ first. key_of first.line.does ≡ Some k) at
    kept_by key_of before after notes was =
        kept_at before after (key_of spot.line.does) (position_of placing count)
        (λ k at. IsNoted run placing (count + 1) (λ first. key_of first.line.does ≡ Some k) at) notes
        (λ k at is. noted_more run placing count (λ first. key_of first.line.does ≡ Some k) at (was k at is))
        (λ k is. noted_now run placing count spot (λ first. key_of first.line.does ≡ Some k) here is)

pub causes_next : {apart : List ℕ} (thing : ℕ) (run : List Line) (placing : Placing) (count : ℕ) (old new : Causes)
    (spot : Spot)
    → spot_at run count ≡ Some spot → AreCauses run apart placing count old
    → NotesLine old new (fact_of apart thing spot) count (position_of placing count)
    → AreCauses run apart placing (count + 1) new
causes_next {apart} thing run placing count old new spot here were notes = record {
  trees = covered_tree apart placing run count spot old new (tree apart spot) here refl notes.trees were.trees;
  called = covered (reached_at nat_eq old.called)
      (reached_at nat_eq new.called) called_by placing run count spot here notes.called
      were.called;
  completed = covered (reached_at nat_eq old.completed)
      (reached_at nat_eq new.completed) completed_by placing run count spot here
      notes.completed were.completed;
  marked = covered (reached_at nat_eq old.marked)
      (reached_at nat_eq new.marked) marked_by placing run count spot here notes.marked
      were.marked;
  left = covered_left apart thing placing run count spot old new here notes.left were.left;
  cancelled = λ place what first less there is. ⊎_elim
      (λ (before : place < count). subst
      (λ (all : List Cancelled). Contains all (record { thing = what; place = place; at = position_of placing place }))
      (sym notes.cancelled)
      (cancelled_stays old.cancelled.items count (position_of placing count) spot.line.does
      (record { thing = what; place = place; at = position_of placing place })
      (were.cancelled place what first before there is)))
      (λ (last : place ≡ count).
      let same : first ≡ spot = same_at run place count first spot last there here in
      subst (λ (p : ℕ). Contains new.cancelled.items (record { thing = what; place = p; at = position_of placing p }))
      (sym last)
      (subst (λ (all : List Cancelled). Contains all
      (record { thing = what; place = count; at = position_of placing count }))
      (sym (notes.cancelled ∙ ap (λ (d : Doing). cancelled_with old.cancelled.items count (position_of placing count) d)
      (ap (λ (s : Spot). s.line.does) (sym same) ∙ is)))
      (Contains-push old.cancelled.items (record { thing = what; place = count; at = position_of placing count }))))
      (last_or_before place count less);
  only = only_next thing run placing count old new spot here were.only notes;
}

-- what a line names

named_called : (kept : Causes) (fact : Fact) (bound op : ℕ) (does : Doing) → takes_up does ≡ Some op
    → NamesBefore kept fact bound does
    → IsBefore (reached_at nat_eq kept.called op) bound
named_called kept fact bound op (doing.Done number code size) is named =
    subst (λ (n : ℕ). IsBefore (reached_at nat_eq kept.called n) bound) (some_same number op is) named
named_called kept fact bound op (doing.Begin number code size) is named =
    subst (λ (n : ℕ). IsBefore (reached_at nat_eq kept.called n) bound) (some_same number op is) named.0
named_called kept fact bound op (doing.Drop number) is named =
    subst (λ (n : ℕ). IsBefore (reached_at nat_eq kept.called n) bound) (some_same number op is) named
named_called kept fact bound op _ is named = cc

named_completed : (kept : Causes) (fact : Fact) (bound op : ℕ) (does : Doing) → begins does op ≡ true
    → NamesBefore kept fact bound does
    → IsBefore (reached_at nat_eq kept.completed op) bound
named_completed kept fact bound op (doing.Begin number code size) is named =
    subst (λ (n : ℕ). IsBefore (reached_at nat_eq kept.completed n) bound) (eqb-true number op is) named.1
named_completed kept fact bound op _ is named = cc

named_outside : (kept : Causes) (fact : Fact) (bound op : ℕ) (does : Doing) → begins does op ≡ true
    → NamesBefore kept fact bound does
    → fact.tree ≡ Execution op → IsBefore (reached_at same_frame kept.trees (Outside fact.line.thread)) bound
named_outside kept fact bound op (doing.Begin number code size) is named alone =
    named.2 (alone ∙ ap Execution (sym (eqb-true number op is)))
named_outside kept fact bound op _ is named alone = cc

named_marked : (kept : Causes) (fact : Fact) (bound mark : ℕ) (does : Doing) → does ≡ doing.After mark
    → NamesBefore kept fact bound does
    → IsBefore (reached_at nat_eq kept.marked mark) bound
named_marked kept fact bound mark does is named = subst (λ (d : Doing). NamesBefore kept fact bound d) is named

completes_it : (does : Doing) (op : ℕ) → completes does op ≡ true → completed_by does ≡ Some op
completes_it (doing.Done number code size) op is = ap Some (eqb-true number op is)
completes_it _ op is = cc

either_true : (a b c : Bool) → (a || (b && c)) ≡ true → (a ≡ true) ⊎ ((b ≡ true) × (c ≡ true))
either_true true b c is = inl refl
either_true false true true is = inr (refl, refl)
either_true false true false is = cc
either_true false false c is = cc

begins_aborted : (does : Doing) (op size : ℕ) → does ≡ doing.Begin op code.Aborted size → begins does op ≡ true
begins_aborted does op size is = subst (λ (d : Doing). begins d op ≡ true) (sym is) (eq-eqb op op refl)

-- an execution that is inside no other leaves its thread outside
leaves_outside : (spot : Spot) (op : ℕ) (does : Doing) → does ≡ spot.line.does → ends does ≡ Some op
    → around_by does (stack spot.past spot.line.thread) ≡ op ∷ [] → ends_outside spot ≡ true
leaves_outside spot op (doing.End number) is ended alone =
    rw (sym is, eq-eqb spot.line.thread spot.line.thread refl, alone) refl
leaves_outside spot op (doing.Throw number) is ended alone =
    rw (sym is, eq-eqb spot.line.thread spot.line.thread refl, alone) refl
leaves_outside spot op _ is ended alone = cc

-- a line whose causes are asked for, by what is kept
record IsAsked (apart : List ℕ) (thing : ℕ) (run : List Line) (placing : Placing) (place : ℕ) (kept : Causes)
    (spot : Spot) (bound : ℕ) : Type 0 where
  pub causes : AreCauses run apart placing place kept
  pub behind : IsBehind kept (fact_of apart thing spot) bound
  pub may : MayDo loose spot.past spot.line.thread spot.line.does

cause_before : {apart : List ℕ} (thing : ℕ) (run : List Line) (placing : Placing) (place : ℕ) (kept : Causes)
    (spot : Spot) (bound : ℕ)
    → IsAsked apart thing run placing place kept spot bound → (at : ℕ) (first : Spot) → at < place
    → spot_at run at ≡ Some first
    → length first.past ≡ at → IsCause apart first spot → IsSomeAnd (position_of placing at) (λ p. p < bound)
cause_before {apart} thing run placing place kept spot bound asked at first less there placed cause =
    ⊎_elim (λ (same : tree apart first ≡ tree apart spot).
    before_covered (reached_at same_frame kept.trees (tree apart first)) (position_of placing at) bound
    (asked.causes.trees at first less there)
    (subst (λ (f : Frame). IsBefore (reached_at same_frame kept.trees f) bound) (sym same) asked.behind.trees))
    (λ rest. ⊎_elim (λ (enables : Enables first.line.does spot.line.does).
    let op = enables.0 in
    ⊎_elim (λ (called : calls first.line.does op ≡ true).
    before_covered (reached_at nat_eq kept.called op) (position_of placing at) bound
    (asked.causes.called at op first less there (calls_it first.line.does op called))
    (named_called kept (fact_of apart thing spot) bound op spot.line.does enables.1 asked.behind.named))
    (λ both. before_covered (reached_at nat_eq kept.completed op) (position_of placing at) bound
    (asked.causes.completed at op first less there (completes_it first.line.does op both.0))
    (named_completed kept (fact_of apart thing spot) bound op spot.line.does both.1 asked.behind.named))
    (either_true (calls first.line.does op) (completes first.line.does op) (begins spot.line.does op) enables.2))
    (λ rest. ⊎_elim (λ (aborts : Aborts first spot).
    let waiter = waiter_from (done_of spot.past aborts.op) aborts.call in
    let begun : begun_by spot.past spot.line.does ≡ Some waiter =
    begun_call_is spot.past spot.line.thread aborts.op aborts.call spot.line.does asked.may
    (begins_aborted spot.line.does aborts.op aborts.size aborts.begun) aborts.called in
    let pending : aborts.call.place < length first.past = aborts.pending in
    All-contains (IsHarmless waiter bound) kept.cancelled.items
    (record { thing = aborts.thing; place = at; at = position_of placing at })
    (asked.behind.aborts aborts.op aborts.size waiter aborts.begun begun)
    (asked.causes.cancelled at aborts.thing first less there aborts.cancels) aborts.same (omega arith))
    (λ rest. ⊎_elim (λ (wakes : Wakes first.line.does spot.line.does).
    before_covered (reached_at nat_eq kept.marked wakes.0) (position_of placing at) bound
    (asked.causes.marked at wakes.0 first less there (ap marked_by wakes.1))
    (named_marked kept (fact_of apart thing spot) bound wakes.0 spot.line.does wakes.2 asked.behind.named))
    (λ rest. ⊎_elim (λ (leads : Leads apart first spot).
    let same : tree apart first ≡ Outside spot.line.thread =
    ap (λ (ops : List ℕ). frame_by first.line.thread (root apart ops)) leads.outside ∙ ap Outside leads.same in
    before_covered (reached_at same_frame kept.trees (tree apart first)) (position_of placing at) bound
    (asked.causes.trees at first less there)
    (subst (λ (f : Frame). IsBefore (reached_at same_frame kept.trees f) bound) (sym same)
    (named_outside kept (fact_of apart thing spot) bound leads.op spot.line.does leads.begun asked.behind.named
    leads.alone)))
    (λ (leaves : Leaves first spot).
    let outside : tree apart spot ≡ Outside spot.line.thread =
    ap (λ (ops : List ℕ). frame_by spot.line.thread (root apart ops)) leaves.outside in
    before_covered (reached_at nat_eq kept.left first.line.thread) (position_of placing at) bound
    (asked.causes.left at first less there
    (leaves_outside first leaves.op first.line.does refl leaves.ended leaves.outermost))
    (subst (λ (t : ℕ). IsBefore (reached_at nat_eq kept.left t) bound) (sym leaves.same)
    (asked.behind.ends spot.line.thread outside)))
    rest) rest) rest) rest) cause.reason

if_put : (kept : Causes) (fact : Fact) (o : Option ℕ) (bound : ℕ) → o ≡ Some bound → IsBehindIfPut kept fact o
    → IsBehind kept fact bound
if_put kept fact o bound is behind = subst (λ (p : Option ℕ). IsBehindIfPut kept fact p) is behind

-- a line that stands behind its causes is found to do so

all_before : (o : Option (Option ℕ)) (bound : ℕ) → ((at : Option ℕ) → o ≡ Some at → IsSomeAnd at (λ p. p < bound))
    → IsBefore o bound
all_before None bound are = tt
all_before (Some None) bound are = are None refl
all_before (Some (Some place)) bound are = are (Some place) refl

-- a line that stands behind its causes
record IsPlaced (run : List Line) (apart : List ℕ) (placing : Placing) (place : ℕ) (spot : Spot) (bound : ℕ) : Type 0 where
  pub legal : IsLegalSoFar loose run
  pub here : spot_at run place ≡ Some spot
  pub put : position_of placing place ≡ Some bound
  pub behind : IsLineBehind run apart (position_of placing) place

caused : {apart : List ℕ} (run : List Line) (placing : Placing) (place : ℕ) (spot : Spot) (bound : ℕ) (Has : Spot
    → Type 0) (at : Option ℕ)
    → IsPlaced run apart placing place spot bound → IsNoted run placing place Has at
    → ((first : Spot) → MayDo loose first.past first.line.thread first.line.does
    → length first.past < length spot.past → Has first
    → IsCause apart first spot) → IsSomeAnd at (λ p. p < bound)
caused run placing place spot bound Has at placed was causes =
    let first_at : length was.first.past ≡ was.place = (found run was.place was.first was.there).place_is in
    let here_at : length spot.past ≡ place = (found run place spot placed.here).place_is in
    let less : was.place < place = was.before in
    subst (λ (o : Option ℕ). IsSomeAnd o (λ p. p < bound)) was.here
    (placed.behind bound was.place spot was.first placed.here placed.put was.there
    (causes was.first (legal_at run was.place was.first placed.legal was.there) (omega arith) was.has))

completes_so : (does : Doing) (op : ℕ) → completed_by does ≡ Some op → completes does op ≡ true
completes_so (doing.Done number code size) op is = eq-eqb number op (some_same number op is)
completes_so _ op is = cc

marks_so : (does : Doing) (mark : ℕ) → marked_by does ≡ Some mark → does ≡ doing.Mark mark
marks_so (doing.Mark number) mark is = ap doing.Mark (some_same number mark is)
marks_so _ mark is = cc

left_true : (a b : Bool) → a ≡ true → (a || b) ≡ true
left_true a b is = rw is refl

right_true : (a b : Bool) → b ≡ true → (a || b) ≡ true
right_true true b is = refl
right_true false b is = is

before_called : {apart : List ℕ} (run : List Line) (placing : Placing) (place : ℕ) (kept : Causes) (spot : Spot)
    (bound op : ℕ)
    → IsPlaced run apart placing place spot bound → AreNoted run apart placing place kept
    → takes_up spot.line.does ≡ Some op
    → IsBefore (reached_at nat_eq kept.called op) bound
before_called run placing place kept spot bound op placed were takes =
    all_before (reached_at nat_eq kept.called op) bound (λ at is.
    caused run placing place spot bound (λ first. called_by first.line.does ≡ Some op) at placed (were.called op at is)
    (λ first may less has. record {
      earlier = less;
      reason = inr (inl (
        op,
        takes,
        left_true (calls first.line.does op) (completes first.line.does op && begins spot.line.does op)
            (calls_so first.line.does op has),
      ));
    }))

before_completed : {apart : List ℕ} (run : List Line) (placing : Placing) (place : ℕ) (kept : Causes) (spot : Spot)
    (bound op : ℕ)
    → IsPlaced run apart placing place spot bound → AreNoted run apart placing place kept
    → takes_up spot.line.does ≡ Some op
    → begins spot.line.does op ≡ true → IsBefore (reached_at nat_eq kept.completed op) bound
before_completed run placing place kept spot bound op placed were takes begun =
    all_before (reached_at nat_eq kept.completed op) bound (λ at is.
    caused run placing place spot bound (λ first. completed_by first.line.does ≡ Some op) at placed
    (were.completed op at is)
    (λ first may less has. record {
      earlier = less;
      reason = inr (inl (
        op,
        takes,
        right_true (calls first.line.does op) (completes first.line.does op && begins spot.line.does op)
            (rw (completes_so first.line.does op has, begun) refl),
      ));
    }))

before_tree : {apart : List ℕ} (run : List Line) (placing : Placing) (place : ℕ) (kept : Causes) (spot : Spot) (bound : ℕ)
    → IsPlaced run apart placing place spot bound → AreNoted run apart placing place kept
    → IsBefore (reached_at same_frame kept.trees (tree apart spot)) bound
before_tree {apart} run placing place kept spot bound placed were =
    all_before (reached_at same_frame kept.trees (tree apart spot)) bound (λ at is.
    caused run placing place spot bound (λ first. tree apart first ≡ tree apart spot) at placed (were.trees
    (tree apart spot) at is)
    (λ first may less has. record { earlier = less; reason = inl has }))

before_outside : {apart : List ℕ} (run : List Line) (placing : Placing) (place : ℕ) (kept : Causes) (spot : Spot)
    (bound op : ℕ)
    → IsPlaced run apart placing place spot bound → AreNoted run apart placing place kept → begins spot.line.does op ≡ true
    → tree apart spot ≡ Execution op → IsBefore (reached_at same_frame kept.trees (Outside spot.line.thread)) bound
before_outside {apart} run placing place kept spot bound op placed were begun alone =
    all_before (reached_at same_frame kept.trees (Outside spot.line.thread)) bound (λ at is.
    caused run placing place spot bound (λ first. tree apart first ≡ Outside spot.line.thread) at placed
    (were.trees (Outside spot.line.thread) at is)
    (λ first may less has.
    let out = outside_tree first.line.thread spot.line.thread (root apart (around first)) has in
    record {
      earlier = less;
      reason = inr (inr (inr (inr (inl (record {
        op = op;
        same = out.0;
        outside = no_root apart (around first) out.1;
        begun = begun;
        alone = alone;
      })))));
    }))

before_marked : {apart : List ℕ} (run : List Line) (placing : Placing) (place : ℕ) (kept : Causes) (spot : Spot)
    (bound mark : ℕ)
    → IsPlaced run apart placing place spot bound → AreNoted run apart placing place kept
    → spot.line.does ≡ doing.After mark
    → IsBefore (reached_at nat_eq kept.marked mark) bound
before_marked run placing place kept spot bound mark placed were after =
    all_before (reached_at nat_eq kept.marked mark) bound (λ at is.
    caused run placing place spot bound (λ first. marked_by first.line.does ≡ Some mark) at placed (were.marked mark at is)
    (λ first may less has. record {
      earlier = less;
      reason = inr (inr (inr (inl (mark, marks_so first.line.does mark has, after))));
    }))

false_true : false ≡ true → ⊥
false_true e = cc

-- what leaves its thread outside ends there
ended_here : (spot : Spot) (does : Doing) → does ≡ spot.line.does → ends_outside spot ≡ true
    → (is_none (first_of (stack_after does (stack spot.past spot.line.thread))) && is_some (ends does)) ≡ true
ended_here spot does is leaves =
    let here : stack (spot.line ∷ spot.past) spot.line.thread ≡ stack_after spot.line.does
    (stack spot.past spot.line.thread) =
    rw (eq-eqb spot.line.thread spot.line.thread refl) refl in
    ap (λ (d : Doing). is_none (first_of (stack_after d (stack spot.past spot.line.thread))) && is_some (ends d)) is
    ∙ ap (λ (ops : List ℕ). is_none (first_of ops) && is_some (ends spot.line.does)) (sym here) ∙ leaves

alone_end : (thread op : ℕ) (ops : List ℕ) → frame_of ops thread ≡ Execution op
    → is_none (first_of (outer ops)) ≡ true → ops ≡ op ∷ []
alone_end thread op [] writes none = cc
alone_end thread op (one ∷ []) writes none = let e : one ≡ op = cc in ap (λ (n : ℕ). n ∷ []) e
alone_end thread op (one ∷ two ∷ ops) writes none = cc

-- an execution that leaves its thread outside is inside no other
leaves_alone : (spot : Spot) (does : Doing) → does ≡ spot.line.does → MayDo loose spot.past spot.line.thread does
    → ends_outside spot ≡ true
    → (op : ℕ) × (ends does ≡ Some op) × (around_by does (stack spot.past spot.line.thread) ≡ op ∷ [])
leaves_alone spot (doing.End op) is may leaves = (
  op,
  refl,
  alone_end spot.line.thread op (stack spot.past spot.line.thread) may.innermost
      (and_parts (is_none (first_of (outer (stack spot.past spot.line.thread)))) true (ended_here spot
      (doing.End op) is leaves)).0,
)
leaves_alone spot (doing.Throw op) is may leaves = (
  op,
  refl,
  alone_end spot.line.thread op (stack spot.past spot.line.thread) may.innermost
      (and_parts (is_none (first_of (outer (stack spot.past spot.line.thread)))) true (ended_here spot
      (doing.Throw op) is leaves)).0,
)
leaves_alone spot does is may leaves =
    absurd (false_true (and_parts (is_none (first_of (stack_after does (stack spot.past spot.line.thread)))) (is_some
    (ends does))
    (ended_here spot does is leaves)).1)

before_left : {apart : List ℕ} (run : List Line) (placing : Placing) (place : ℕ) (kept : Causes) (spot : Spot)
    (bound thread : ℕ)
    → IsPlaced run apart placing place spot bound → AreNoted run apart placing place kept → tree apart spot ≡ Outside thread
    → IsBefore (reached_at nat_eq kept.left thread) bound
before_left {apart} run placing place kept spot bound thread placed were outside =
    all_before (reached_at nat_eq kept.left thread) bound (λ at is.
    caused run placing place spot bound (λ first. (first.line.thread ≡ thread) × IsTrue (ends_outside first)) at placed
    (were.left thread at is)
    (λ first may less has.
    let out = outside_tree spot.line.thread thread (root apart (around spot)) outside in
    let alone = leaves_alone first first.line.does refl may has.1 in
    record {
      earlier = less;
      reason = inr (inr (inr (inr (inr (record {
        op = alone.0;
        same = has.0 ∙ sym out.0;
        ended = alone.1;
        outermost = alone.2;
        outside = no_root apart (around spot) out.1;
      })))));
    }))

before_aborts : {apart : List ℕ} (run : List Line) (placing : Placing) (place : ℕ) (kept : Causes) (thing : ℕ)
    (spot : Spot) (bound : ℕ)
    → IsPlaced run apart placing place spot bound → AreNoted run apart placing place kept
    → AbortsBefore kept (fact_of apart thing spot) bound
before_aborts run placing place kept thing spot bound placed were op size waiter does begun =
    All-weaker (IsNotedCancel run placing place) (IsHarmless waiter bound)
    (λ one was same less.
    let call = waiter_call spot.past op waiter
    (subst (λ (d : Doing). begun_by spot.past d ≡ Some waiter) does begun) in
    caused run placing place spot bound (λ first. (first.line.does ≡ doing.Cancel one.thing) ×
    (length first.past ≡ one.place)) one.at placed was
    (λ first may earlier has. record {
      earlier = earlier;
      reason = inr (inr (inl (record {
        op = op;
        size = size;
        thing = one.thing;
        call = call.0;
        cancels = has.0;
        begun = does;
        called = call.1;
        same = ap (λ (w : Waiter). w.thing) (sym call.2) ∙ same;
        pending =
            (let place_is : waiter.place ≡ (call.0).place = ap (λ (w : Waiter). w.place) call.2 in
            let at : length first.past ≡ one.place = has.1 in
            let below : waiter.place < one.place = less in
            omega arith);
      })));
    }))
    kept.cancelled.items were.cancelled

before_named : {apart : List ℕ} (run : List Line) (placing : Placing) (place : ℕ) (kept : Causes) (thing : ℕ)
    (spot : Spot) (bound : ℕ) (does : Doing)
    → IsPlaced run apart placing place spot bound → AreNoted run apart placing place kept → spot.line.does ≡ does
    → NamesBefore kept (fact_of apart thing spot) bound does
before_named run placing place kept thing spot bound (doing.Begin op code size) placed were is = (
  before_called run placing place kept spot bound op placed were (ap takes_up is),
  before_completed run placing place kept spot bound op placed were (ap takes_up is) (ap (λ
      (d : Doing). begins d op) is ∙ eq-eqb op op refl),
  λ alone. before_outside run placing place kept spot bound op placed were (ap (λ (d : Doing). begins d op) is
      ∙ eq-eqb op op refl) alone,
)
before_named run placing place kept thing spot bound (doing.Done op code size) placed were is =
    before_called run placing place kept spot bound op placed were (ap takes_up is)
before_named run placing place kept thing spot bound (doing.Drop op) placed were is =
    before_called run placing place kept spot bound op placed were (ap takes_up is)
before_named run placing place kept thing spot bound (doing.After mark) placed were is =
    before_marked run placing place kept spot bound mark placed were is
before_named run placing place kept thing spot bound _ placed were is = tt

found_behind : {apart : List ℕ} (thing : ℕ) (run : List Line) (placing : Placing) (place : ℕ) (kept : Causes)
    (spot : Spot) (at : Option ℕ)
    → IsLegalSoFar loose run → AreCauses run apart placing place kept → spot_at run place ≡ Some spot
    → position_of placing place ≡ at
    → IsLineBehind run apart (position_of placing) place → IsBehindIfPut kept (fact_of apart thing spot) at
found_behind {apart} thing run placing place kept spot None legal causes here put behind = tt
found_behind {apart} thing run placing place kept spot (Some bound) legal causes here put behind =
    let placed : IsPlaced run apart placing place spot bound = record {
      legal = legal;
      here = here;
      put = put;
      behind =
          behind;
    } in
    record {
      trees = before_tree run placing place kept spot bound placed causes.only;
      named = before_named run placing place kept thing spot bound spot.line.does placed causes.only refl;
      aborts = before_aborts run placing place kept thing spot bound placed causes.only;
      ends = λ thread outside. before_left run placing place kept spot bound thread placed causes.only outside;
    }

pub line_behind : {apart : List ℕ} (thing : ℕ) (run : List Line) (facts : Facts) (placing : Placing) (place : ℕ)
    (kept : Causes) (spot : Spot)
    → AreFacts apart thing run facts → AreCauses run apart placing place kept → spot_at run place ≡ Some spot
    → IsBehindIfPut kept (fact_of apart thing spot) (position_of placing place)
    → IsLineBehind run apart (position_of placing) place
line_behind {apart} thing run facts placing place kept spot are causes here behind = λ bound at other first there put
    found_there cause.
    let same : other ≡ spot = some_same other spot (sym there ∙ here) in
    let first_at : length first.past ≡ at = (found run at first found_there).place_is in
    let here_at : length other.past ≡ place = (found run place other there).place_is in
    let less : length first.past < length other.past = cause.earlier in
    cause_before thing run placing place kept spot bound
    (record {
      causes = causes;
      behind = if_put kept (fact_of apart thing spot) (position_of placing place) bound put behind;
      may = legal_at run place spot are.legal here;
    }) at first (omega arith) found_there first_at (subst (λ (s : Spot). IsCause apart first s) same cause)

-- all lines that cancel are gone through

pub harmless_more : (waiter : Waiter) (bound : ℕ) (all : List Cancelled) (at : ℕ) (one : Cancelled) → at < length all
    → one ≡ get_or all at one → All (IsHarmless waiter bound) (take at all) → IsHarmless waiter bound one
    → All (IsHarmless waiter bound) (take (at + 1) all)
harmless_more waiter bound all at one within is before here =
    All-more (IsHarmless waiter bound) all at one within before (subst (λ
    (c : Cancelled). IsHarmless waiter bound c) is here)

pub harmless_all : (waiter : Waiter) (bound : ℕ) (all : List Cancelled) (at : ℕ) → length all ≤ at
    → All (IsHarmless waiter bound) (take at all) → All (IsHarmless waiter bound) all
harmless_all waiter bound all at past were = subst (λ (xs : List Cancelled). All (IsHarmless waiter bound) xs)
    (take_all at all past) were

-- one of them isn't harmless
pub harmful : (waiter : Waiter) (bound : ℕ) (all : List Cancelled) (at : ℕ) (one : Cancelled) (good : Bool)
    → at < length all
    → one ≡ get_or all at one → IsTrue good ↔ IsHarmless waiter bound one → good ≡ false
    → All (IsHarmless waiter bound) all → false ≡ true
harmful waiter bound all at one good within is exact bad are =
    sym bad ∙ exact.1 (subst (λ (c : Cancelled). IsHarmless waiter bound c) (sym is)
    (All-get_or (IsHarmless waiter bound) all at one within are))

-- all lines of a run are gone through

pub record AreBehindBelow (run : List Line) (apart : List ℕ) (placing : Placing) (count : ℕ) (kept : Causes) : Type 0 where
  pub causes : AreCauses run apart placing count kept
  pub behind : (place : ℕ) → place < count → IsLineBehind run apart (position_of placing) place

pub behind_more : {apart : List ℕ} (run : List Line) (placing : Placing) (count : ℕ) (old new : Causes) (good : Bool)
    → AreBehindBelow run apart placing count old
    → SeesLine run apart placing count new good → IsTrue good → AreBehindBelow run apart placing (count + 1) new
behind_more {apart} run placing count old new good were sees is = record {
  causes = sees.noted is;
  behind = λ place less. ⊎_elim (λ (before : place < count). were.behind place before)
      (λ (same : place ≡ count). subst (IsLineBehind run apart (position_of placing)) (sym same) (sees.behind.0 is))
      (last_or_before place count less);
}

pub behind_all : {apart : List ℕ} (thing : ℕ) (run : List Line) (facts : Facts) (placing : Placing) (count : ℕ)
    (kept : Causes) → AreFacts apart thing run facts
    → facts.lines ≤ count → AreBehindBelow run apart placing count kept
    → IsTrue true ↔ AreBehind run apart (position_of placing)
behind_all thing run facts placing count kept are past were = (
  λ fine place less.
      let counted : facts.lines ≡ length run = are.counted in were.behind place (omega arith),
  λ behind. refl,
)

pub behind_none : {apart : List ℕ} (run : List Line) (placing : Placing) (kept : Causes)
    → AreCauses run apart placing 0 kept → AreBehindBelow run apart placing 0 kept
behind_none run placing kept causes = record { causes = causes; behind = λ place less. absurd (omega arith) }

-- one of them doesn't stand behind its causes
pub not_behind : {apart : List ℕ} (thing : ℕ) (run : List Line) (facts : Facts) (placing : Placing) (place : ℕ)
    (new : Causes) (good : Bool)
    → AreFacts apart thing run facts → place < facts.lines → SeesLine run apart placing place new good → good ≡ false
    → IsTrue false ↔ AreBehind run apart (position_of placing)
not_behind thing run facts placing place new good are less sees bad = (
  λ fine. absurd (false_true fine),
  λ behind.
      let counted : facts.lines ≡ length run = are.counted in
      sym bad ∙ sees.behind.1 (behind place (omega arith)),
)

-- the line at a place is gone through

pub seen_line : {apart : List ℕ} (thing : ℕ) (run : List Line) (facts : Facts) (placing : Placing) (place : ℕ)
    (old new : Causes) (fact : Fact)
    (at : Option ℕ) → AreFacts apart thing run facts → AreCauses run apart placing place old
    → fact_at facts place ≡ Some fact
    → at ≡ position_of placing place → IsBehindIfPut old fact at → NotesLine old new fact place at
    → SeesLine run apart placing place new true
seen_line {apart} thing run facts placing place old new fact at are causes there here behind notes =
    let found = spot_of_fact thing run facts place fact are there in
    let put : IsBehindIfPut old (fact_of apart thing found.0) (position_of placing place) =
    subst (λ (f : Fact). IsBehindIfPut old f (position_of placing place)) found.2
    (subst (λ (o : Option ℕ). IsBehindIfPut old fact o) here behind) in
    let noted_so : NotesLine old new (fact_of apart thing found.0) place (position_of placing place) =
    subst (λ (f : Fact). NotesLine old new f place (position_of placing place)) found.2
    (subst (λ (o : Option ℕ). NotesLine old new fact place o) here notes) in
    record {
      behind = (λ fine. line_behind thing run facts placing place old found.0 are causes found.1 put, λ behind. refl);
      noted = λ fine. causes_next thing run placing place old new found.0 found.1 causes noted_so;
    }

-- or isn't found good
pub unseen_line : {apart : List ℕ} (thing : ℕ) (run : List Line) (facts : Facts) (placing : Placing) (place : ℕ)
    (old new : Causes) (fact : Fact)
    (at : Option ℕ) (good : Bool) → AreFacts apart thing run facts → AreCauses run apart placing place old
    → fact_at facts place ≡ Some fact
    → at ≡ position_of placing place → IsTrue good ↔ IsBehindIfPut old fact at → good ≡ false
    → SeesLine run apart placing place new false
unseen_line thing run facts placing place old new fact at good are causes there here exact is =
    let found = spot_of_fact thing run facts place fact are there in
    record {
      behind = (
        λ fine. absurd (false_true fine),
        λ behind. sym is ∙ exact.1 (subst (λ (f : Fact). IsBehindIfPut old f at) (sym found.2)
            (found_behind thing run placing place old found.0 at are.legal causes found.1 (sym here) behind)),
      );
      noted = λ fine. absurd (false_true fine);
    }

-- each place of a run has a line
spot_known : (run : List Line) (place : ℕ) → place < length run → spot_at run place ≡ None → ⊥
spot_known [] place less none = omega arith
spot_known (line ∷ past) place less none =
    cond_both (length past == place) (Some (record { line = line; past = past })) (spot_at past place) (λ
    (o : Option Spot). o ≡ None → ⊥)
    (λ here none. cc)
    (λ elsewhere none. spot_known past place
    (before_last (length past) place less (λ same. let e : true ≡ false = sym (eq-eqb (length past) place same)
    ∙ elsewhere in cc)) none) none
  where
    before_last : (count place : ℕ) → place < suc count → (count ≡ place → ⊥) → place < count
    before_last count place less distinct = grind (arith)

pub fact_known : {apart : List ℕ} (thing : ℕ) (run : List Line) (facts : Facts) (place : ℕ)
    → AreFacts apart thing run facts → place < facts.lines
    → fact_at facts place ≡ None → ⊥
fact_known {apart} thing run facts place are less none =
    let counted : facts.lines ≡ length run = are.counted in
    no_fact (spot_at run place) (sym (are.lines place) ∙ none) (spot_known run place (omega arith))
  where
    no_fact : (o : Option Spot) → option_map (fact_of apart thing) o ≡ None → (o ≡ None → ⊥) → ⊥
    no_fact None is not = not refl
    no_fact (Some spot) is not = cc

-- before all lines nothing is noted
pub nothing_noted : {apart : List ℕ} (run : List Line) (placing : Placing) (kept : Causes) → ((key : Frame)
    → reached_at same_frame kept.trees key ≡ None)
    → ((key : ℕ) → reached_at nat_eq kept.called key ≡ None) → ((key : ℕ) → reached_at nat_eq kept.completed key ≡ None)
    → ((key : ℕ) → reached_at nat_eq kept.marked key ≡ None) → ((key : ℕ) → reached_at nat_eq kept.left key ≡ None)
    → kept.cancelled.items ≡ [] → AreCauses run apart placing 0 kept
nothing_noted run placing kept trees called completed marked left cancelled = record {
  trees = λ place first less. absurd (omega arith);
  called = λ place op first less. absurd (omega arith);
  completed = λ place op first less. absurd (omega arith);
  marked = λ place mark first less. absurd (omega arith);
  left = λ place first less. absurd (omega arith);
  cancelled = λ place thing first less. absurd (omega arith);
  only = record {
    trees = λ key at is. absurd (none_some (reached_at same_frame kept.trees key) at (trees key) is);
    called = λ key at is. absurd (none_some (reached_at nat_eq kept.called key) at (called key) is);
    completed = λ key at is. absurd (none_some (reached_at nat_eq kept.completed key) at (completed key) is);
    marked = λ key at is. absurd (none_some (reached_at nat_eq kept.marked key) at (marked key) is);
    left = λ key at is. absurd (none_some (reached_at nat_eq kept.left key) at (left key) is);
    cancelled = All-same (IsNotedCancel run placing 0) kept.cancelled.items [] cancelled (All-nil
        (IsNotedCancel run placing 0));
  };
}
  where
    none_some : (o : Option (Option ℕ)) (at : Option ℕ) → o ≡ None → o ≡ Some at → ⊥
    none_some o at none some = let e : None ≡ Some at = sym none ∙ some in cc

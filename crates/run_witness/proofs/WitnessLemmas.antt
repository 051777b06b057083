-- An order that shows an overlap is judged good.
use Rattle.std.proofs.Common.{◌≡◌, ℕ, suc, List, [], ◌∷◌, ◌<◌, ◌≤◌, refl, ap, sym, subst, ◌∙◌, inl, inr, ⊎_elim, length, arith}
use Rattle.std.proofs.lemmas.Bool.{cases_Bool, cond_both, eq-eqb, eqb-true, ne_eqb}
use Rattle.std.specs.Prelude.{Bool, true, false, ◌==◌, ◌⊎◌, ◌↔◌, ◌≢◌, IsSomeAnd, IsTrue, Option, Some, None}
use Rattle.std.specs.Option.{option_map}
use Rattle.run_lines.specs.declared.line.Line.{Line}
use Rattle.run_rules.specs.declared.frame.Frame.{Frame}
use Rattle.run_rules.specs.declared.taking.Resource.TheVariants.{Thing}
use Rattle.run_rules.specs.Stacks.{same_frame}
use Rattle.run_rules.specs.Takings.{is_taken_by}
use Rattle.run_orders.specs.declared.order.Step.{Step}
use Rattle.run_orders.specs.Causes.{IsCause}
use Rattle.run_orders.specs.Holding.{GivesBack, HoldsBoth, IsHeld}
use Rattle.run_orders.specs.Orders.{EachMayStand, Stands}
use Rattle.run_orders.specs.Trees.{Spot, spot_at, writer}
use Rattle.run_orders.proofs.StandLemmas.{step_stands}
use Rattle.run_orders.proofs.TreeLemmas.{found, some_same}
use Rattle.run_witness.specs.Facts.{AreFacts, fact_at, fact_of}
use Rattle.run_witness.specs.Judging.{IsClaimAt, Keeps, KeepsAll}
use Rattle.run_witness.specs.Placing.{IsPlacing, position, position_of, thread_of}
use Rattle.run_witness.specs.Witness.{AreBehind}
use Rattle.run_witness.specs.declared.facts.Fact.{Fact}
use Rattle.run_witness.specs.declared.facts.Facts.{Facts}
use Rattle.run_witness.specs.declared.placing.Placing.{Placing}
use Rattle.run_witness.proofs.CausesLemmas.{fact_known}
use Rattle.run_witness.proofs.JudgingLemmas.{position_stands, some_less, writer_thread}
use Rattle.run_witness.proofs.PlacingLemmas.{frame_is, frame_same, spot_of_fact, stands_somewhere}

-- what stands has a position among the others
standing : (before : List Step) (at : ℕ) → Stands before at → IsSomeAnd (position before at)
    (λ index. index < length before)
standing [] at stands = absurd stands
standing (step ∷ before) at stands =
    cond_both (step.place == at) (Some (length before)) (position before at) (λ (o : Option ℕ). IsSomeAnd o
    (λ index. index < suc (length before)))
    (λ here. omega arith)
    (λ elsewhere. less_more (position before at) (length before) (standing before at (⊎_elim
    (λ (same : step.place ≡ at). let e : true ≡ false = sym (eq-eqb step.place at same) ∙ elsewhere in absurd (distinct e))
    (λ behind. behind) stands)))
  where
    distinct : true ≡ false → ⊥
    distinct e = cc

    less_more : (o : Option ℕ) (count : ℕ) → IsSomeAnd o (λ index. index < count) → IsSomeAnd o (λ index. index < suc count)
    less_more None count is = absurd is
    less_more (Some index) count is = let less : index < count = is in omega arith

-- what may stand stands behind its causes
stood_behind : (apart : List ℕ) (run : List Line) (steps : List Step) → EachMayStand run apart steps
    → (place bound at : ℕ) (spot first : Spot)
    → spot_at run place ≡ Some spot → position steps place ≡ Some bound → spot_at run at ≡ Some first
    → IsCause apart first spot
    → IsSomeAnd (position steps at) (λ index. index < bound)
stood_behind apart run [] each place bound at spot first there put first_there cause = cc
stood_behind apart run (step ∷ before) each place bound at spot first there put first_there cause =
    cond_both (step.place == place) (Some (length before)) (position before place)
    (λ (o : Option ℕ). o ≡ Some bound → IsSomeAnd (position (step ∷ before) at) (λ index. index < bound))
    (λ here is.
    let same : each.1.spot ≡ spot =
    some_same each.1.spot spot (sym each.1.there ∙ ap (spot_at run) (eqb-true step.place place here) ∙ there) in
    let stands : Stands before at =
    each.1.behind at first first_there (subst (λ (s : Spot). IsCause apart first s) (sym same) cause) in
    in_whole bound stands (subst (λ (n : ℕ). IsSomeAnd (position before at) (λ index. index < n))
    (some_same (length before) bound is) (standing before at stands)))
    (λ elsewhere is.
    let earlier_all = stood_behind apart run before each.0 place bound at spot first there is first_there cause in
    let earlier = some_less (position before at) bound earlier_all in
    in_whole bound (position_stands before at earlier.0 earlier.1) earlier_all) put
  where
    in_whole : (bound : ℕ) → Stands before at → IsSomeAnd (position before at) (λ index. index < bound)
        → IsSomeAnd (position (step ∷ before) at) (λ index. index < bound)
    in_whole bound stands is =
        let distinct : (step.place == at) ≡ false =
        ne_eqb step.place at (λ same. each.1.once (subst (λ (p : ℕ). Stands before p) (sym same) stands)) in
        rw distinct is

pub are_stood : {apart : List ℕ} (run : List Line) (steps : List Step) (placing : Placing)
    → IsPlacing run apart steps placing → EachMayStand run apart steps
    → AreBehind run apart (position_of placing)
are_stood {apart} run steps placing kept each =
    subst (λ (p : ℕ → Option ℕ). AreBehind run apart p) (λ i place. sym (kept.places place) i)
    (λ place less bound at spot first there put first_there cause.
    stood_behind apart run steps each place bound at spot first there put first_there cause)

-- a claim that is held stands, and no line that stands gives it back

held_fact : {apart : List ℕ} (thing : ℕ) (run : List Line) (facts : Facts) (place : ℕ) (spot : Spot) (claim : Fact)
    → AreFacts apart thing run facts
    → spot_at run place ≡ Some spot → fact_at facts place ≡ Some claim → claim ≡ fact_of apart thing spot
held_fact {apart} thing run facts place spot claim are there is =
    some_same claim (fact_of apart thing spot) (sym is ∙ are.lines place ∙ ap (option_map (fact_of apart thing)) there)

keeps_by : {apart : List ℕ} (run : List Line) (steps : List Step) (facts : Facts) (placing : Placing)
    (place thing thread at : ℕ) (claim fact : Fact)
    → AreFacts apart thing run facts → IsPlacing run apart steps placing → fact_at facts place ≡ Some claim
    → (held : IsHeld run steps place thread thing) → fact_at facts at ≡ Some fact
    → (at ≤ place) ⊎ ((fact.writer ≢ claim.writer) ⊎ ((fact.has ≡ true) ⊎ (position_of placing at ≡ None)))
keeps_by {apart} run steps facts placing place thing thread at claim fact are kept claim_there held there =
    ⊎_elim (λ (before : at ≤ place). inl before) (λ (behind : place < at). inr (
    ⊎_elim (λ (same : same_frame fact.writer claim.writer ≡ true). inr (
    ⊎_elim (λ (has : fact.has ≡ true). inl has) (λ (gone : fact.has ≡ false). inr (
    by_position (position_of placing at) refl behind (frame_is fact.writer claim.writer same) gone)) (cases_Bool fact.has)))
    (λ (other : same_frame fact.writer claim.writer ≡ false). inl (λ same.
    let e : true ≡ false = sym (frame_same fact.writer claim.writer same) ∙ other in distinct e))
    (cases_Bool (same_frame fact.writer claim.writer)))) (before_or at place)
  where
    distinct : true ≡ false → ⊥
    distinct e = cc

    before_or : (at place : ℕ) → (at ≤ place) ⊎ (place < at)
    before_or at place = grind (arith)

    by_position : (o : Option ℕ) → position_of placing at ≡ o → place < at → fact.writer ≡ claim.writer → fact.has ≡ false
        → position_of placing at ≡ None
    by_position None put behind same gone = put
    by_position (Some index) put behind same gone =
        let spot = held.claim in
        let claim_is : claim ≡ fact_of apart thing spot = held_fact thing run facts place spot claim are held.there
        claim_there in
        let later = spot_of_fact thing run facts at fact are there in
        let one_writer : writer later.0 ≡ writer spot =
        ap (λ (f : Fact). f.writer) (sym later.2) ∙ same ∙ ap (λ (f : Fact). f.writer) claim_is in
        let on_one : (later.0).line.thread ≡ spot.line.thread =
        writer_thread run are.legal at place later.0 spot later.1 held.there one_writer in
        let first_at : length spot.past ≡ place = (found run place spot held.there).place_is in
        let later_at : length (later.0).past ≡ at = (found run at later.0 later.1).place_is in
        let gives : GivesBack thing spot later.0 = record {
          behind = omega arith;
          same = one_writer;
          gone = ap (λ (f : Frame). is_taken_by ((later.0).line ∷ (later.0).past) spot.line.thread f (Thing thing))
              (sym one_writer)
              ∙ ap (λ (t : ℕ). is_taken_by ((later.0).line ∷ (later.0).past) t (writer later.0) (Thing thing)) (sym on_one)
              ∙ ap (λ (f : Fact). f.has) (sym later.2) ∙ gone;
        } in
        absurd (held.kept at later.0 later.1 gives (position_stands steps at index (sym (kept.places at) ∙ put)))

pub held_keeps : {apart : List ℕ} (run : List Line) (facts : Facts) (steps : List Step) (placing : Placing)
    (place thing thread : ℕ) (claim : Fact)
    → AreFacts apart thing run facts → IsPlacing run apart steps placing → fact_at facts place ≡ Some claim
    → IsHeld run steps place thread thing
    → (thread_of placing claim.tree ≡ Some thread) × KeepsAll facts placing place claim
held_keeps run facts steps placing place thing thread claim are kept there held = (
  ap (λ (f : Fact). thread_of placing f.tree) (held_fact thing run facts place held.claim claim are held.there there)
      ∙ kept.threads held.step held.claim held.put ∙ ap Some held.on,
  λ at less. by_fact at less (fact_at facts at) refl,
)
  where
    by_fact : (at : ℕ) → at < facts.lines → (o : Option Fact) → fact_at facts at ≡ o → Keeps facts placing place claim at
    by_fact at less None is = absurd (fact_known thing run facts at are less is)
    by_fact at less (Some fact) is = record {
      fact = fact;
      there = is;
      keeps = keeps_by run steps facts placing place thing thread at claim fact are kept there held is;
    }

-- a claim that is held is found
held_claim : {apart : List ℕ} (run : List Line) (facts : Facts) (steps : List Step) (place thing thread : ℕ)
    → AreFacts apart thing run facts
    → (held : IsHeld run steps place thread thing) → IsClaimAt facts place thing (fact_of apart thing held.claim)
held_claim {apart} run facts steps place thing thread are held =
    record { there = are.lines place ∙ ap (option_map (fact_of apart thing)) held.there; claims = held.claims }

-- and stands
held_stands : {apart : List ℕ} (run : List Line) (steps : List Step) (placing : Placing) (place thing thread : ℕ)
    → IsPlacing run apart steps placing
    → IsHeld run steps place thread thing → position_of placing place ≡ None → ⊥
held_stands run steps placing place thing thread kept held none =
    stands_somewhere steps place (sym (kept.places place) ∙ none)
    (subst (λ (p : ℕ). Stands steps p) held.here (step_stands steps held.step held.put.stands))

pub none_some : {X : Type 0} (x : X) → None ≡ Some x → ⊥
none_some x e = cc

-- two threads hold a thing by two claims if each claim is found held, by two

pub both_hold : (run : List Line) (steps : List Step) (thing one other : ℕ) (first second : Option ℕ) (a b : ℕ)
    → ((thread : ℕ) → (first ≡ Some thread) ↔ IsHeld run steps one thread thing)
    → ((thread : ℕ) → (second ≡ Some thread) ↔ IsHeld run steps other thread thing) → first ≡ Some a → second ≡ Some b
    → (good : Bool)
    → IsTrue good ↔ (a ≢ b) → IsTrue good ↔ HoldsBoth run steps thing one other
both_hold run steps thing one other first second a b is_first is_second here there good differ = (
  λ fine. record {
    first = a;
    second = b;
    apart = differ.0 fine;
    held = (is_first a).0 here;
    held_too = (is_second b).0 there;
  },
  λ both. differ.1 (λ same. both.apart
      (some_same both.first a (sym ((is_first both.first).1 both.held) ∙ here) ∙ same
      ∙ some_same b both.second (sym there ∙ (is_second both.second).1 both.held_too))),
)

pub one_free : (run : List Line) (steps : List Step) (thing one other : ℕ) (first second : Option ℕ)
    → ((thread : ℕ) → (first ≡ Some thread) ↔ IsHeld run steps one thread thing)
    → ((thread : ℕ) → (second ≡ Some thread) ↔ IsHeld run steps other thread thing) → (first ≡ None) ⊎ (second ≡ None)
    → HoldsBoth run steps thing one other → false ≡ true
one_free run steps thing one other first second is_first is_second none both =
    ⊎_elim (λ here. absurd (none_some both.first (sym here ∙ (is_first both.first).1 both.held)))
    (λ there. absurd (none_some both.second (sym there ∙ (is_second both.second).1 both.held_too))) none

-- a claim that isn't found, or doesn't stand, is held by no thread

pub not_claimed : {apart : List ℕ} (run : List Line) (facts : Facts) (steps : List Step) (place thing : ℕ)
    (found_claim : Option Fact)
    → AreFacts apart thing run facts → ((claim : Fact) →
    (found_claim ≡ Some claim) ↔ IsClaimAt facts place thing claim) → found_claim ≡ None
    → (thread : ℕ) → (None ≡ Some thread) ↔ IsHeld run steps place thread thing
not_claimed {apart} run facts steps place thing found_claim are claims none thread = (
  λ is. absurd (none_some thread is),
  λ held. let claim = fact_of apart thing held.claim in
      absurd (none_some claim (sym none ∙ (claims claim).1 (held_claim run facts steps place thing thread are held))),
)

pub not_put : {apart : List ℕ} (run : List Line) (steps : List Step) (placing : Placing) (place thing : ℕ)
    → IsPlacing run apart steps placing
    → position_of placing place ≡ None → (thread : ℕ) → (None ≡ Some thread) ↔ IsHeld run steps place thread thing
not_put run steps placing place thing kept none thread =
    (λ is. absurd (none_some thread is), λ held. absurd (held_stands run steps placing place thing thread kept held none))

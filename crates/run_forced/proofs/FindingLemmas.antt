-- The events of a run, and what follows of its claims.
use Rattle.std.proofs.Common.{◌≡◌, ◌+◌, ◌-◌, ℕ, zero, suc, ◌<◌, ◌≤◌, List, [], ◌∷◌, ◌++◌, refl, ap, sym, subst, ◌∙◌, inl, inr, ⊎_elim, length, reverse, get_or, arith}
use Rattle.std.proofs.lemmas.Bool.{cases_Bool, eq-eqb, ne_eqb}
use Rattle.std.proofs.lemmas.List.{get_or-reverse, length-reverse}
use Rattle.std.proofs.lemmas.List.Elements.{All-push}
use Rattle.std.specs.List.{All}
use Rattle.std.specs.Prelude.{◌⊎◌, ◌==◌, Bool, true, false, Some, None}
use Rattle.run_lines.specs.declared.line.Line.{Line}
use Rattle.run_rules.specs.Legal.{IsLegalSoFar}
use Rattle.run_orders.specs.Laws.{NeverOverlaps}
use Rattle.run_orders.specs.Orders.{plain}
use Rattle.run_orders.specs.Trees.{Spot, spot_at}
use Rattle.run_orders.proofs.HandingLemmas.{handing_suffices}
use Rattle.run_orders.proofs.BeginLemmas.{shorter}
use Rattle.run_orders.proofs.TreeLemmas.{found}
use Rattle.run_forced.specs.declared.claims.Claims.{Claims}
use Rattle.run_forced.specs.declared.event.Event.{Event}
use Rattle.run_forced.specs.Claims.{AreClaims, is_mixed}
use Rattle.run_forced.specs.Events.{AreEvents, IsEvent, IsHere}

pub events_length : (run : List Line) (events : List Event) → AreEvents run events → length events ≡ length run
events_length [] [] are = refl
events_length [] (event ∷ before) are = absurd are
events_length (line ∷ past) [] are = absurd are
events_length (line ∷ past) (event ∷ before) are = ap suc (events_length past before are.0)

-- the event at a place from the end
at_end : (run : List Line) (events : List Event) (at back : ℕ) (d : Event) → AreEvents run events → at + back + 1 ≡ length events
    → IsHere run at (get_or events back d)
at_end [] [] at back d are within = absurd (omega arith)
at_end [] (event ∷ before) at back d are within = absurd are
at_end (line ∷ past) [] at back d are within = absurd are
at_end (line ∷ past) (event ∷ before) at zero d are within =
    let long : length before ≡ length past = events_length past before are.0 in
    let here : length past ≡ at = omega arith in
    record {
      spot = record { line = line; past = past };
      there = rw (eq-eqb (length past) at here) refl;
      known = are.1;
    }
at_end (line ∷ past) (event ∷ before) at (suc back) d are within =
    let long : length before ≡ length past = events_length past before are.0 in
    let was = at_end past before at back d are.0 (less within) in
    let apart : (length past == at) ≡ false = ne_eqb (length past) at (λ e. differs e long within) in
    record { spot = was.spot; there = rw apart was.there; known = was.known }
  where
    less : {n : ℕ} → at + suc back + 1 ≡ suc n → at + back + 1 ≡ n
    less same = omega arith

    differs : {p n : ℕ} → p ≡ at → n ≡ p → at + suc back + 1 ≡ suc n → ⊥
    differs here long same = absurd (omega arith)

pub here_at : (run : List Line) (events : List Event) (at : ℕ) (d : Event) → AreEvents run (reverse events) → at < length events
    → IsHere run at (get_or events at d)
here_at run events at d are less =
    let back : ℕ = length events - 1 - at in
    let within : at + back + 1 ≡ length (reverse events) = omega (arith, length-reverse events) in
    let below : back < length events = omega arith in
    let again : length events - 1 - back ≡ at = omega arith in
    subst (λ (e : Event). IsHere run at e) (get_or-reverse events back d below ∙ ap (λ (n : ℕ). get_or events n d) again)
    (at_end run (reverse events) at back d are within)

-- a thing that isn't mixed is handed over
pub never_overlaps : (run : List Line) (claims : Claims) (thing : ℕ) → IsLegalSoFar plain run → AreClaims run (length run) claims
    → is_mixed claims thing ≡ false → NeverOverlaps run thing
never_overlaps run claims thing legal are unmixed =
    handing_suffices run thing legal (λ at next one two there too is is_too less.
    are.handed thing unmixed at next one two there too is is_too less (within next two too))
  where
    within : (next : ℕ) (spot : Spot) → spot_at run next ≡ Some spot → next < length run
    within next spot there =
        let at = found run next spot there in
        subst (λ (n : ℕ). n < length run) at.place_is (shorter at.end.0 spot.line spot.past run at.end.1)

pub here_item : (run : List Line) (events : List Event) (at : ℕ) (event : Event) → AreEvents run (reverse events) → at < length events
    → event ≡ get_or events at event → IsHere run at event
here_item run events at event are less is = subst (λ (e : Event). IsHere run at e) (sym is) (here_at run events at event are less)

pub kept_thing : (run : List Line) (claims : Claims) (thing : ℕ) (old new : List ℕ) (mixed : Bool) → IsLegalSoFar plain run
    → AreClaims run (length run) claims → mixed ≡ is_mixed claims thing → mixed ≡ false → new ≡ old ++ thing ∷ []
    → All (NeverOverlaps run) old → All (NeverOverlaps run) new
kept_thing run claims thing old new mixed legal are same not is all =
    subst (λ (things : List ℕ). All (NeverOverlaps run) things) (sym is)
    (All-push (NeverOverlaps run) old thing all (never_overlaps run claims thing legal are (sym same ∙ not)))

-- the claims among all lines
pub all_lines : (run : List Line) (events : List Event) (at : ℕ) (claims : Claims) → AreEvents run (reverse events) → at ≤ length events
    → length events ≤ at → AreClaims run at claims → AreClaims run (length run) claims
all_lines run events at claims are upto from claimed =
    let long : length (reverse events) ≡ length run = events_length run (reverse events) are in
    let same : at ≡ length run = omega (arith, length-reverse events) in
    subst (λ (n : ℕ). AreClaims run n claims) same claimed

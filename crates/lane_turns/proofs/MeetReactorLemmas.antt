-- The opener and the reactor's lane met before an event: the opener knows all that the reactor did,
-- and no more.
use Rattle.std.proofs.Common.{◌≡◌, ◌≢◌, ◌⊎◌, ⊎_elim, inl, inr, ℕ, zero, suc, ◌+◌, ◌<◌, false, List, [], ◌∷◌, ◌++◌, Some, length, set, refl, sym, ap, subst, ◌∙◌, arith}
use Rattle.std.specs.Prelude.{slice_get, take}
use mathlib.Core.Logic.{dite}
use native.Mathlib.Decide.{ℕ_discrete}
use Rattle.std.proofs.Math.Seq.{take-append_seam}
use Rattle.std.proofs.lemmas.List.Elements.{All-push, All-take}
use Rattle.std.proofs.Math.ListN.{length-set}
use Rattle.session_script.specs.Script.{ScriptModel}
use Rattle.lane_clock.specs.declared.step.ClockStep.{ClockStep}
use Rattle.lane_clock.specs.declared.step.ClockStep.TheVariants.{Join}
use Rattle.lane_clock.specs.Knowledge.{StartOf, counts}
use Rattle.lane_clock.specs.Seats.{Owns, SeatView, copy_seat, own}
use Rattle.lane_logs.specs.Cuts.{HasStarted, HaveStarted, NoneStops, is_stop_draw}
use Rattle.lane_logs.specs.Knowing.{lists_of}
use Rattle.lane_turns.specs.Attending.{AreHeard, IsHeard}
use Rattle.lane_turns.specs.Benches.{HaveAllStarted, IsRow, places_of}
use Rattle.lane_turns.specs.Openers.{HaveMet, OpenerView}
use Rattle.lane_turns.proofs.AttendingLemmas.{get_set_other, get_set_same, heard_now, heard_on, on_heard}
use Rattle.lane_turns.proofs.BenchLemmas.{same_one}
use Rattle.lane_turns.proofs.LaneStartedLemmas.{started_start}
use Rattle.lane_turns.proofs.MeetingLemmas.{copied_steps, met_either, met_number}

-- one element of a list was changed at its place
set_cases : {T : Type 0} (all : List T) (i k : ℕ) (one now other : T) → slice_get all i ≡ Some one →
    slice_get (set all i now) k ≡ Some other → ((k ≡ i) × (now ≡ other)) ⊎ (slice_get all k ≡ Some other)
set_cases all i k one now other at is =
    dite (ℕ_discrete k i)
    (λ (here : k ≡ i). inl (here, same_one (set all i now) i k now other (get_set_same all i one now at) here is))
    (λ apart. inr (sym (get_set_other all i k now apart) ∙ is))

-- stops are among neither some steps nor a join behind them, nor the first of them
none_joined : (steps : List ClockStep) (taken : List ℕ) → NoneStops steps → NoneStops (steps ++ Join taken ∷ [])
none_joined steps taken none = All-push (λ step. is_stop_draw step ≡ false) steps (Join taken) none refl

none_front : (xs all : List ClockStep) → StartOf xs all → NoneStops all → NoneStops xs
none_front xs all start none =
    subst NoneStops (ap (take (length xs)) start.1 ∙ take-append_seam xs start.0)
    (All-take (λ step. is_stop_draw step ≡ false) (length xs) all none)

pub places_set : {T : Type 0} (place : T → ℕ) (all : List T) (i : ℕ) (one now : T) → slice_get all i ≡ Some one →
    place now ≡ place one → places_of place (set all i now) ≡ places_of place all
places_set place [] i one now at same = refl
places_set place (x ∷ xs) zero one now at same =
    let it : x ≡ one = cc in ap (λ p. p ∷ places_of place xs) (same ∙ ap place (sym it))
places_set place (x ∷ xs) (suc i) one now at same =
    ap (λ ps. place x ∷ ps) (places_set place xs i one now at same)

module _ {T : Type 0} (seat : T → SeatView) (script : ScriptModel) (a b : OpenerView) (lanes : List T) (i : ℕ)
    (one now : T) (at : slice_get lanes i ≡ Some one) (met : HaveMet script a b (seat one) (seat now)) where
  now_number : (seat now).number ≡ (seat one).number
  now_number = met_number (copy_seat a.pen.seat) (seat one) (seat now) met.told

  pub row_met : (first count : ℕ) → IsRow seat first count lanes → IsRow seat first count (set lanes i now)
  row_met first count row =
      record {
        size = length-set lanes i now ∙ row.size;
        numbers =
            λ k other is.
            ⊎_elim
            (λ (here : (k ≡ i) × (now ≡ other)).
            let was : (seat one).number ≡ first + i = row.numbers i one at in
            let same : (seat now).number ≡ (seat other).number = ap (λ t. (seat t).number) here.1 in
            omega (arith, was, same, now_number, here.0))
            (λ (was : slice_get lanes k ≡ Some other). row.numbers k other was) (set_cases lanes i k one now other at is);
      }

  pub heard_met : (count : ℕ) → AreHeard seat script a lanes count → AreHeard seat script b (set lanes i now) count
  heard_met count heard k other less is =
      ⊎_elim
      (λ (here : (k ≡ i) × (now ≡ other)).
      subst (λ t. IsHeard script b (seat t)) here.1 (heard_now script a b (seat now) met.heard))
      (λ (was : slice_get lanes k ≡ Some other).
      heard_on script a b (seat other) (on_heard script (seat now) a b met.heard) (heard k other less was))
      (set_cases lanes i k one now other at is)

  pub started_met : (place : T → ℕ) (count : ℕ) → i < count → place now ≡ place one →
      HaveAllStarted seat place lanes count → HaveAllStarted seat place (set lanes i now) count
  started_met place count within same started k other less is =
      ⊎_elim
      (λ (here : (k ≡ i) × (now ≡ other)).
      subst (λ t. HaveStarted (own (seat t)) (seat t).number (place t)) here.1 it)
      (λ (was : slice_get lanes k ≡ Some other). started k other less was) (set_cases lanes i k one now other at is)
    where
      it : HaveStarted (own (seat now)) (seat now).number (place now)
      it p below =
          subst (λ n. HasStarted (own (seat now)) n p) (sym now_number)
          (started_start (own (seat one)) (own (seat now)) (seat one).number p
          (Join (counts (copy_seat a.pen.seat).known) ∷ [], met.told.steps)
          (started i one within at p (omega (arith, below, same))))

  pub none_met : Owns (seat one) (seat one).number → (seat one).number ≢ a.pen.seat.number → NoneStops (own (seat one)) →
      NoneStops (lists_of b.pen.seat (seat one).number)
  none_met owns apart none =
      let n : ℕ = (seat one).number in
      let whole : StartOf (lists_of a.pen.seat n) (own (seat one)) =
      subst (λ steps. StartOf steps (own (seat one))) (copied_steps a.pen.seat.known n) (met.told.whole n owns) in
      let before : NoneStops (lists_of a.pen.seat n) = none_front _ (own (seat one)) whole none in
      let after : NoneStops (own (seat now)) =
      subst NoneStops (sym met.told.steps)
      (none_joined (own (seat one)) (counts (copy_seat a.pen.seat).known) none) in
      ⊎_elim
      (λ (same : lists_of b.pen.seat n ≡ lists_of a.pen.seat n). subst NoneStops (sym same) before)
      (λ (told : lists_of b.pen.seat n ≡ lists_of (copy_seat (seat now)) n).
      subst NoneStops
      (sym (told ∙ copied_steps (seat now).known n ∙ ap (lists_of (seat now)) (sym now_number))) after)
      (met_either (copy_seat (seat now)) a.pen.seat b.pen.seat met.heard.met.met n apart)

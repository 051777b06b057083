-- Attempts at lanes one after another.
use Rattle.std.proofs.Common.{◌≡◌, ◌≢◌, inl, inr, ⊎_elim, ℕ, ◌+◌, ◌<◌, ◌≤◌, Bool, true, false, cond, List, [], ◌∷◌, ◌++◌, Option, Some, None, refl, sym, ap, subst, ◌∙◌, arith}
use Rattle.std.proofs.lemmas.Bool.{cases_lt}
use Rattle.std.proofs.lemmas.Bool.Decides.{eqb_tells}
use Rattle.std.proofs.lemmas.List.{append-nil, append_assoc}
use Rattle.std.specs.Prelude.{◌==◌}
use Rattle.turn_table.specs.Numbers.{has}
use Rattle.turn_table.specs.Seated.{Seated}
use Rattle.lane_clock.specs.declared.found.Found.{Found}
use Rattle.lane_clock.specs.declared.step.ClockStep.TheVariants.{Join, Load}
use Rattle.lane_clock.specs.Knowledge.{counts}
use Rattle.lane_clock.specs.Seats.{SeatView, copy_seat, own}
use Rattle.lane_clock.specs.Steps.{draw_count, step_count}
use Rattle.lane_clock.proofs.KeepLemmas.{start_same, start_trans}
use Rattle.lane_logs.specs.Labels.{Labelled, entries_in, silent, steps_in}
use Rattle.lane_turns.specs.declared.one.One.{One}
use Rattle.lane_turns.specs.declared.one.One.TheVariants as one
use Rattle.lane_turns.specs.Answers.{is_fault, is_nothing}
use Rattle.lane_turns.specs.Attempts.{Gives, HasAttempted, HasTried, WorkerAt, WorkerState}
use Rattle.lane_turns.specs.LaneValues.{HearsOf, LaneValue, Tries, handlers, reactor}
use Rattle.lane_turns.specs.Receipts.{SeatHasGone}
use Rattle.lane_turns.specs.Scanning.{CameBehind, GoesOn, Grows, HasLooked, HavePassed, Looks, HasLookedRound, HasScanned, HasTriedOne, HasTriedUntil, HaveTried, Scans, SeatGoesOn, TriedAmong, TriedLast, misses_of, none_passed, none_tried, numbers_of, one_passed, one_tried}
use Rattle.lane_turns.specs.Workers.{HasHeard, HasRead, WorkerView}
use Rattle.lane_turns.proofs.AttemptLemmas.{nothing_is}
use Rattle.lane_turns.proofs.MeetingLemmas.{met_number}
use Rattle.lane_turns.proofs.PenLemmas.{step_count-append}
use Rattle.lane_turns.proofs.RememberingLemmas.{gone_number, gone_remembers}

same_list : (xs ys : List ℕ) → xs ≡ ys → Grows xs ys
same_list xs ys same = ([], sym same ∙ sym (append-nil xs))

grows_on : (xs ys zs : List ℕ) → Grows xs ys → Grows ys zs → Grows xs zs
grows_on xs ys zs first second = (
  first.0 ++ second.0,
  second.1 ∙ ap (λ front. front ++ second.0) first.1 ∙ append_assoc xs first.0 second.0,
)

pub seat_same : (w : WorkerView) → SeatGoesOn w w
seat_same w =
    record {
      remembers = λ n. start_same _ _ refl;
      number = refl;
      draws = refl;
      log = refl;
      round = refl;
      drew = refl;
      stopped = refl;
    }

pub seat_and_on : (a b c : WorkerView) → SeatGoesOn a b → SeatGoesOn b c → SeatGoesOn a c
seat_and_on a b c first second =
    record {
      remembers = λ n. start_trans _ _ _ (first.remembers n) (second.remembers n);
      number = second.number ∙ first.number;
      draws = second.draws ∙ first.draws;
      log = second.log ∙ first.log;
      round = second.round ∙ first.round;
      drew = second.drew ∙ first.drew;
      stopped = second.stopped ∙ first.stopped;
    }

pub on_same : {H X : Type 0} (w : WorkerState H X) → GoesOn w w
on_same w = record { seat = seat_same w.seat; misses = same_list _ _ refl; numbers = refl }

pub on_and_on : {H X : Type 0} (a b c : WorkerState H X) → GoesOn a b → GoesOn b c → GoesOn a c
on_and_on a b c first second =
    record {
      seat = seat_and_on a.seat b.seat c.seat first.seat second.seat;
      misses = grows_on _ _ _ first.misses second.misses;
      numbers = second.numbers ∙ first.numbers;
    }

-- taking in what another knows is no draw
seat_heard : (lane : SeatView) (base : ℕ) (a b : WorkerView) → HasHeard lane base a b → SeatGoesOn a b
seat_heard lane base a b heard =
    let met = heard.met.met in
    let drawn : step_count draw_count (own b.pen.seat) ≡ step_count draw_count (own a.pen.seat) + 0 =
    ap (step_count draw_count) met.steps
    ∙ step_count-append draw_count (own a.pen.seat) (Join (counts (copy_seat lane).known) ∷ []) in
    record {
      remembers = met.remembers;
      number = met_number (copy_seat lane) a.pen.seat b.pen.seat met;
      draws = omega (arith, drawn);
      log = heard.met.log;
      round = heard.round;
      drew = heard.drew;
      stopped = heard.stopped;
    }

hears_on : {H X : Type 0} (v : LaneValue H X) (a b : WorkerView) → HearsOf v a b → SeatGoesOn a b
hears_on (handlers (Some view)) a b heard = seat_heard view.lane.pen.seat view.lane.base a b heard
hears_on (handlers None) a b heard = absurd heard
hears_on (reactor (Some view)) a b heard = seat_heard view.lane.pen.seat view.lane.base a b heard
hears_on (reactor None) a b heard = absurd heard

-- and neither are steps of its own without a draw
pub seat_gone : (labels : List Labelled) (a b : WorkerView) → SeatHasGone labels a b →
    step_count draw_count (steps_in labels) ≡ 0 → entries_in labels ≡ [] → SeatGoesOn a b
seat_gone labels a b it none silently =
    let drawn : step_count draw_count (own b.pen.seat)
    ≡ step_count draw_count (own a.pen.seat) + step_count draw_count (steps_in labels) =
    ap (step_count draw_count) it.gone.steps
    ∙ step_count-append draw_count (own a.pen.seat) (steps_in labels) in
    record {
      remembers = gone_remembers labels a.pen b.pen it.gone;
      number = gone_number labels a.pen b.pen it.gone;
      draws = omega (arith, drawn, none);
      log = it.gone.log ∙ ap (λ entries. a.pen.log ++ entries) silently ∙ append-nil a.pen.log;
      round = it.round;
      drew = it.drew;
      stopped = it.stopped;
    }

seat_read : (a b : WorkerView) (found : Found) → HasRead a b found → SeatGoesOn a b
seat_read a b found read =
    seat_gone (silent (Load found) ∷ []) a b
    (record { gone = read.gone; round = read.round; drew = read.drew; stopped = read.stopped; in_step = read.in_step })
    refl refl

-- the worker goes on as its seat does, where its seat at the table stays
pub goes_on : {H X : Type 0} (a b : WorkerState H X) → SeatGoesOn a.seat b.seat → b.turns ≡ a.turns → GoesOn a b
goes_on a b on turns =
    record { seat = on; misses = same_list _ _ (ap misses_of (sym turns)); numbers = ap numbers_of turns }

pub looked_on : {H X : Type 0} (a b : WorkerState H X) (found : Found) → HasLooked a b found → GoesOn a b
looked_on a b found looked = goes_on a b (seat_read a.seat b.seat found looked.read) looked.turns

missed_more : (b : Bool) (lane : ℕ) (misses : List ℕ) → Grows misses (cond b misses (misses ++ lane ∷ []))
missed_more true lane misses = same_list _ _ refl
missed_more false lane misses = (lane ∷ [], refl)

module _ {H X : Type 0} (t : Tries H X) (lane : ℕ) (answer : One) where
  pub tried_seat : (old new : WorkerAt) (kept : Option (LaneValue H X)) → HasTried t lane answer old new kept →
      SeatGoesOn old.seat new.seat
  tried_seat old new kept (inl held) = subst (SeatGoesOn old.seat) (sym held.seat) (seat_same old.seat)
  tried_seat old new kept (inr had) =
      seat_and_on old.seat had.mid new.seat (hears_on had.before old.seat had.mid had.heard)
      (hears_on had.after had.mid new.seat had.learned)

  tried_misses : (old new : WorkerAt) (kept : Option (LaneValue H X)) → HasTried t lane answer old new kept →
      Grows old.turns.misses new.turns.misses
  tried_misses old new kept (inl held) =
      subst (λ (s : Seated). Grows old.turns.misses s.misses) (sym held.missed)
      (missed_more (has lane old.turns.turns) lane old.turns.misses)
  tried_misses old new kept (inr had) = by_case (is_fault answer) had.given
    where
      by_case : (b : Bool) → Gives t lane b had.after old.turns new.turns kept →
          Grows old.turns.misses new.turns.misses
      by_case false given = same_list _ _ (ap (λ (s : Seated). s.misses) (sym given.0))
      by_case true given = same_list _ _ (ap (λ (s : Seated). s.misses) (sym given.0))

  tried_numbers : (old new : WorkerAt) (kept : Option (LaneValue H X)) → HasTried t lane answer old new kept →
      new.turns.numbers ≡ old.turns.numbers
  tried_numbers old new kept (inl held) = ap (λ (s : Seated). s.numbers) held.missed
  tried_numbers old new kept (inr had) = by_case (is_fault answer) had.given
    where
      by_case : (b : Bool) → Gives t lane b had.after old.turns new.turns kept →
          new.turns.numbers ≡ old.turns.numbers
      by_case false given = ap (λ (s : Seated). s.numbers) given.0
      by_case true given = ap (λ (s : Seated). s.numbers) given.0

  pub attempted_on : (old new : WorkerState H X) → HasAttempted t lane answer old new → GoesOn old new
  attempted_on old new it =
      record {
        seat = tried_seat _ _ _ it.tried;
        misses =
            subst (λ o. Grows (misses_of o) (misses_of new.turns)) (sym it.from_is)
            (subst (λ o. Grows it.from.misses (misses_of o)) (sym it.to_is) (tried_misses _ _ _ it.tried));
        numbers = ap numbers_of it.to_is ∙ tried_numbers _ _ _ it.tried ∙ sym (ap numbers_of it.from_is);
      }

module _ {H X : Type 0} (t : Tries H X) (from : ℕ) (old : WorkerState H X) where
  pub passed_on : {to : ℕ} {new : WorkerState H X} → HavePassed t from old to new → GoesOn old new
  passed_on none_passed = on_same old
  passed_on (one_passed {lane} {mid} {new} before came) =
      on_and_on old mid new (passed_on before) (attempted_on t lane one.Nothing mid new came)

  -- each lane among them came to nothing
  pub passed_each : {to : ℕ} {new : WorkerState H X} → HavePassed t from old to new → (n : ℕ) → from ≤ n → n < to →
      TriedAmong t n one.Nothing old new
  passed_each none_passed n at below = absurd (omega (arith, at, below))
  passed_each (one_passed {lane} {mid} {new} before came) n at below =
      ⊎_elim
      (λ (same : ((n == lane) ≡ true) × (n ≡ lane)).
      subst (λ m. TriedAmong t m one.Nothing old new) (sym same.1)
      record { before = mid; after = new; since = passed_on before; came = came; till = on_same new })
      (λ (differ : ((n == lane) ≡ false) × (n ≢ lane)).
      let it : TriedAmong t n one.Nothing old mid = passed_each before n at (omega (arith, below, differ.1)) in
      record {
        before = it.before;
        after = it.after;
        since = it.since;
        came = it.came;
        till = on_and_on it.after mid new it.till (attempted_on t lane one.Nothing mid new came);
      })
      (eqb_tells n lane)

module _ {H X : Type 0} (t : Tries H X) (from : ℕ) (old : WorkerState H X) where
  -- one more came to nothing
  pub passed_more : (answer : One) (lane : ℕ) (mid new : WorkerState H X) → HavePassed t from old lane mid →
      HasAttempted t lane answer mid new → is_nothing answer ≡ true → HavePassed t from old (lane + 1) new
  passed_more answer lane mid new before came is =
      one_passed before (subst (λ a. HasAttempted t lane a mid new) (nothing_is answer is) came)

  pub came_behind : (answer : One) (lane to : ℕ) (mid new : WorkerState H X) → HavePassed t from old lane mid →
      lane < to → HasAttempted t lane answer mid new → is_nothing answer ≡ false →
      HasScanned t from to answer old new
  came_behind answer lane to mid new before below came is =
      subst (λ b. Scans t b from to answer old new) (sym is)
      record { lane = lane; below = below; mid = mid; passed = before; came = came }

  pub has_passed : (answer : One) (to : ℕ) (new : WorkerState H X) → HasScanned t from to answer old new →
      is_nothing answer ≡ true → HavePassed t from old to new
  has_passed answer to new scanned is = subst (λ b. Scans t b from to answer old new) is scanned

  pub scanned_on : (answer : One) (to : ℕ) (new : WorkerState H X) → HasScanned t from to answer old new →
      GoesOn old new
  scanned_on answer to new scanned = by_case (is_nothing answer) scanned
    where
      by_case : (b : Bool) → Scans t b from to answer old new → GoesOn old new
      by_case true passed = passed_on t from old passed
      by_case false behind =
          on_and_on old behind.mid new (passed_on t from old behind.passed)
          (attempted_on t behind.lane answer behind.mid new behind.came)

  -- it came to something at a lane
  pub came_last : (answer : One) (to lanes : ℕ) (new : WorkerState H X) → to ≤ lanes →
      HasScanned t from to answer old new → is_nothing answer ≡ false → TriedLast t lanes answer old new
  came_last answer to lanes new less scanned is =
      let behind : CameBehind t from to answer old new = subst (λ b. Scans t b from to answer old new) is scanned in
      record {
        lane = behind.lane;
        there = omega (arith, behind.below, less);
        before = behind.mid;
        since = passed_on t from old behind.passed;
        came = behind.came;
      }

-- looks at the lanes from one on, and then at those before it
module _ {H X : Type 0} (t : Tries H X) (first lanes : ℕ) (old mid new : WorkerState H X) (answer : One) where
  pub round_at_once : HasScanned t first lanes answer old new → is_nothing answer ≡ false →
      HasLookedRound t lanes answer old new
  round_at_once scanned is =
      subst (λ b. Looks t b lanes answer old new) (sym is)
      (came_last t first old answer lanes lanes new (omega arith) scanned is)

  pub round_of_two : HavePassed t first old lanes mid → first ≤ lanes → HasScanned t 0 first answer mid new →
      HasLookedRound t lanes answer old new
  round_of_two passed less scanned = by_case (is_nothing answer) refl
    where
      on : GoesOn old mid
      on = passed_on t first old passed

      each : is_nothing answer ≡ true → (lane : ℕ) → lane < lanes → TriedAmong t lane one.Nothing old new
      each is lane there =
          elim (cases_lt lane first) [
            | inl below ↦
                let it : TriedAmong t lane one.Nothing mid new =
                passed_each t 0 mid (has_passed t 0 mid answer first new scanned is) lane (omega arith) below in
                record {
                  before = it.before;
                  after = it.after;
                  since = on_and_on old mid it.before on it.since;
                  came = it.came;
                  till = it.till;
                }
            | inr behind ↦
                let it : TriedAmong t lane one.Nothing old mid =
                passed_each t first old passed lane (omega (arith, behind)) there in
                record {
                  before = it.before;
                  after = it.after;
                  since = it.since;
                  came = it.came;
                  till = on_and_on it.after mid new it.till (scanned_on t 0 mid answer first new scanned);
                }
          ]

      by_case : (b : Bool) → is_nothing answer ≡ b → HasLookedRound t lanes answer old new
      by_case true is = subst (λ b. Looks t b lanes answer old new) (sym is) (each is)
      by_case false is =
          let it : TriedLast t lanes answer mid new =
          came_last t 0 mid answer first lanes new less scanned is in
          subst (λ b. Looks t b lanes answer old new) (sym is)
          record {
            lane = it.lane;
            there = it.there;
            before = it.before;
            since = on_and_on old mid it.before on it.since;
            came = it.came;
          }

-- attempts at some lanes are attempts at lanes
module _ {H X : Type 0} (t : Tries H X) (lanes : ℕ) where
  pub tried_passed : (from : ℕ) (first old : WorkerState H X) → HaveTried t lanes first old → {to : ℕ} {new : WorkerState H X} →
      HavePassed t from old to new → to ≤ lanes → HaveTried t lanes first new
  tried_passed from first old tried none_passed less = tried
  tried_passed from first old tried (one_passed {lane} {mid} {new} before came) less =
      one_tried (tried_passed from first old tried before (omega (arith, less))) (omega (arith, less)) came

  -- behind others that came to nothing
  pub tried_scanned : (from to : ℕ) (answer : One) (first old new : WorkerState H X) → HaveTried t lanes first old →
      HasScanned t from to answer old new → to ≤ lanes → HasTriedUntil t lanes first new
  tried_scanned from to answer first old new tried scanned less = by_case (is_nothing answer) scanned
    where
      by_case : (b : Bool) → Scans t b from to answer old new → HasTriedUntil t lanes first new
      by_case true passed =
          record { mid = new; tried = tried_passed from first old tried passed less; last = inl refl }
      by_case false behind =
          record {
            mid = behind.mid;
            tried = tried_passed from first old tried behind.passed (omega (arith, behind.below, less));
            last = inr (record {
              lane = behind.lane;
              there = omega (arith, behind.below, less);
              answer = answer;
              came = behind.came;
            });
          }

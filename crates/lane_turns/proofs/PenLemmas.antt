-- Labelled steps one after another, and the room that they leave.
use Rattle.std.proofs.Common.{◌≡◌, ℕ, ◌+◌, ◌≤◌, List, [], ◌∷◌, ◌++◌, length, refl, sym, ap, ◌∙◌, arith, length-append}
use Rattle.std.proofs.lemmas.List.{append_assoc, append-nil}
use Rattle.strand_core.specs.declared.posted.Posted.{Posted}
use Rattle.asio_types.specs.declared.event.Event.{Event}
use Rattle.session_script.specs.Script.{ScriptModel}
use Rattle.lane_clock.specs.declared.found.Change.{Change}
use Rattle.lane_clock.specs.declared.found.Found.{Found}
use Rattle.lane_clock.specs.declared.step.ClockStep.{ClockStep}
use Rattle.lane_clock.specs.Seats.{SeatView, after_step, own}
use Rattle.lane_clock.specs.Steps.{draw_count, place_count, step_count}
use Rattle.lane_logs.specs.Labels.{one_drawn, Labelled, shows, entries_in, steps_in}
use Rattle.lane_logs.proofs.LabelLemmas.{entries-append, steps-append}
use Rattle.lane_turns.specs.Pens.{HasDrawnCall, HasDrawnCalls, HasGone, MayGo, PenView, after_steps}

pub after_steps-append : (seat : SeatView) (xs ys : List ClockStep) →
    after_steps seat (xs ++ ys) ≡ after_steps (after_steps seat xs) ys
after_steps-append seat [] ys = refl
after_steps-append seat (x ∷ xs) ys = after_steps-append (after_step seat x) xs ys

pub after_steps-clock : (seat : SeatView) (xs : List ClockStep) → (after_steps seat xs).clock ≡ seat.clock
after_steps-clock seat [] = refl
after_steps-clock seat (x ∷ xs) = after_steps-clock (after_step seat x) xs

pub step_count-append : (f : ClockStep → ℕ) (xs ys : List ClockStep) →
    step_count f (xs ++ ys) ≡ step_count f xs + step_count f ys
step_count-append f [] ys = let none : step_count f ys ≡ 0 + step_count f ys = omega arith in none
step_count-append f (x ∷ xs) ys =
    let more : step_count f (xs ++ ys) ≡ step_count f xs + step_count f ys = step_count-append f xs ys in omega arith

-- the pen keeps its clock
pub gone_clock : (labels : List Labelled) (old new : PenView) → HasGone labels old new → new.seat.clock ≡ old.seat.clock
gone_clock labels old new gone = ap (λ seat. seat.clock) gone.seat ∙ after_steps-clock old.seat (steps_in labels)

-- nothing is done
pub gone_nowhere : (pen : PenView) → HasGone [] pen pen
gone_nowhere pen =
    record {
      seat = refl;
      steps = sym (append-nil (own pen.seat));
      log = sym (append-nil pen.log);
      room = omega arith;
      keeps = λ n owned. owned;
    }

-- some steps, and then others
pub gone_on : (xs ys : List Labelled) (a b c : PenView) → HasGone xs a b → HasGone ys b c → HasGone (xs ++ ys) a c
gone_on xs ys a b c first second =
    record {
      seat =
          second.seat ∙ ap (λ seat. after_steps seat (steps_in ys)) first.seat
          ∙ sym (after_steps-append a.seat (steps_in xs) (steps_in ys))
          ∙ ap (after_steps a.seat) (sym (steps-append xs ys));
      steps =
          second.steps ∙ ap (λ steps. steps ++ steps_in ys) first.steps
          ∙ append_assoc (own a.seat) (steps_in xs) (steps_in ys)
          ∙ ap (λ steps. own a.seat ++ steps) (sym (steps-append xs ys));
      log =
          second.log ∙ ap (λ log. log ++ entries_in ys) first.log
          ∙ append_assoc a.log (entries_in xs) (entries_in ys)
          ∙ ap (λ log. a.log ++ log) (sym (entries-append xs ys));
      room =
          let e : length (entries_in (xs ++ ys)) ≡ length (entries_in xs) + length (entries_in ys) =
          ap length (entries-append xs ys) ∙ length-append (entries_in xs) (entries_in ys) in
          omega (arith, first.room, second.room);
      keeps = λ n owned. second.keeps n (first.keeps n owned);
    }

-- what is left of the room
pub may_go_on : (labels : List Labelled) (draws places more less : ℕ) (old new : PenView) →
    HasGone labels old new → MayGo old draws places →
    length (entries_in labels) + more ≤ draws → step_count draw_count (steps_in labels) + more ≤ draws →
    step_count place_count (steps_in labels) + less ≤ places → MayGo new more less
may_go_on labels draws places more less old new gone may entries drawn placed =
    let d : step_count draw_count (own new.seat)
    ≡ step_count draw_count (own old.seat) + step_count draw_count (steps_in labels) =
    ap (step_count draw_count) gone.steps ∙ step_count-append draw_count (own old.seat) (steps_in labels) in
    let p : step_count place_count (own new.seat)
    ≡ step_count place_count (own old.seat) + step_count place_count (steps_in labels) =
    ap (step_count place_count) gone.steps ∙ step_count-append place_count (own old.seat) (steps_in labels) in
    record {
      log = omega (arith, gone.room, may.log, entries);
      draws_left = omega (arith, d, may.draws_left, drawn);
      places_left = omega (arith, p, may.places_left, placed);
    }

-- one call more
pub drawn_call : (script : ScriptModel) (calls : List Posted) (call : Posted) (a b c : PenView) →
    HasDrawnCalls script calls a b → HasDrawnCall script call b c → HasDrawnCalls script (calls ++ call ∷ []) a c
drawn_call script calls call a b c before now =
    record {
      labels = before.labels ++ now.labels;
      drawn = one_drawn before.drawn now.drawn;
      gone = gone_on before.labels now.labels a b c before.gone now.gone;
    }

-- less room is there too
pub may_go_less : (pen : PenView) (draws places fewer less : ℕ) → MayGo pen draws places → fewer ≤ draws →
    less ≤ places → MayGo pen fewer less
may_go_less pen draws places fewer less may few little =
    record {
      log = omega (arith, may.log, few);
      draws_left = omega (arith, may.draws_left, few);
      places_left = omega (arith, may.places_left, little);
    }

-- what a draw leaves
pub after_draw : (shown : Event) (changes : Change) (found : Found) (draws places more : ℕ) (old new : PenView) →
    HasGone (shows shown changes found ∷ []) old new → MayGo old draws places → more + 1 ≤ draws →
    MayGo new more places
after_draw shown changes found draws places more old new gone may left =
    may_go_on (shows shown changes found ∷ []) draws places more places old new gone may (omega (arith, left))
    (omega (arith, left)) (omega arith)

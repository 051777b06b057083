-- Which of the opener's steps are events that all others take in: where the opener goes on without a
-- draw there is no other, and behind a draw that one alone.
use Rattle.std.proofs.Common.{◌≡◌, ◌⊎◌, inl, inr, ⊎_elim, ℕ, zero, suc, ◌+◌, ◌<◌, ◌≤◌, List, [], ◌∷◌, ◌++◌, length, sym, ap, subst, ◌∙◌, arith, length-append, append_assoc}
use Rattle.std.specs.Prelude.{drop, take}
use mathlib.Core.Option.{some, some-ne-none}
use lib.ListN.{get_elem?}
use Rattle.std.proofs.lemmas.Bool.{cases_lt}
use Rattle.std.proofs.lemmas.List.{take-append-drop, take-append-le}
use Rattle.asio_types.specs.declared.event.Event.{Event}
use Rattle.session_script.specs.Script.{ScriptModel}
use Rattle.lane_clock.specs.declared.found.Change.{Change}
use Rattle.lane_clock.specs.declared.found.Found.{Found}
use Rattle.lane_clock.specs.declared.step.ClockStep.{ClockStep}
use Rattle.lane_clock.specs.declared.step.ClockStep.TheVariants.{Draw}
use Rattle.lane_clock.specs.Knowledge.{StartOf}
use Rattle.lane_clock.specs.Seats.{SeatView, own}
use Rattle.lane_clock.specs.Steps.{draw_count, step_count}
use Rattle.lane_logs.specs.Cuts.{IsEventAt}
use Rattle.lane_logs.specs.Knowing.{lists_of}
use Rattle.lane_logs.specs.SeatNumbers.{opener_seat}
use Rattle.lane_logs.specs.Stand.{Stand, first_stand, stand_of}
use Rattle.lane_logs.proofs.StandLemmas.{opening_passed}
use Rattle.lane_turns.specs.Attending.{HasDrawnLast}
use Rattle.lane_turns.proofs.GrowingLemmas.{take_start}
use Rattle.lane_turns.proofs.PenLemmas.{step_count-append}

pub index_within : (xs : List ClockStep) (i : ℕ) (step : ClockStep) → get_elem? xs i ≡ some step → i < length xs
index_within [] i step is = absurd (some-ne-none step (sym is))
index_within (x ∷ xs) zero step is = omega arith
index_within (x ∷ xs) (suc i) step is = omega (arith, index_within xs i step is)

-- what stands among the first steps of a list
pub index_front : (xs rest : List ClockStep) (i : ℕ) (step : ClockStep) → i < length xs →
    get_elem? (xs ++ rest) i ≡ some step → get_elem? xs i ≡ some step
index_front [] rest i step less is = absurd (omega (arith, less))
index_front (x ∷ xs) rest zero step less is = is
index_front (x ∷ xs) rest (suc i) step less is = index_front xs rest i step (omega (arith, less)) is

pub none_there : (xs : List ClockStep) (i : ℕ) (shown : Event) (changes : Change) (found : Found) → step_count draw_count xs ≡ 0 →
    get_elem? xs i ≡ some (Draw shown changes found) → ⊥
none_there [] i shown changes found none is = some-ne-none (Draw shown changes found) (sym is)
none_there (step ∷ xs) zero shown changes found none is =
    let same : step ≡ Draw shown changes found = cc in
    let one : draw_count step ≡ 1 = ap draw_count same in omega (arith, none, one)
none_there (step ∷ xs) (suc i) shown changes found none is =
    none_there xs i shown changes found (omega (arith, none)) is

-- a draw isn't among steps that draw nothing
draw_front : (xs ys : List ClockStep) (i : ℕ) (shown : Event) (changes : Change) (found : Found) → step_count draw_count ys ≡ 0 →
    get_elem? (xs ++ ys) i ≡ some (Draw shown changes found) → get_elem? xs i ≡ some (Draw shown changes found)
draw_front [] ys i shown changes found none is = absurd (none_there ys i shown changes found none is)
draw_front (x ∷ xs) ys zero shown changes found none is = is
draw_front (x ∷ xs) ys (suc i) shown changes found none is = draw_front xs ys i shown changes found none is

module _ (script : ScriptModel) (lists longer : ℕ → List ClockStep)
    (start : StartOf (lists (opener_seat script)) (longer (opener_seat script))) where
  abbrev o : ℕ
  o = opener_seat script

  -- an event that stands in the first steps
  event_front : (j : ℕ) (is : IsEventAt script longer j) →
      get_elem? (lists o) j ≡ some (Draw is.shown is.changes is.found) → IsEventAt script lists j
  event_front j is at =
      record {
        shown = is.shown;
        changes = is.changes;
        found = is.found;
        drawn = at;
        opened =
            subst (λ steps. (stand_of script steps).opening ≡ 0)
            (take_start (suc j) (lists o) (longer o) start
            (omega (arith, index_within (lists o) j (Draw is.shown is.changes is.found) at)))
            is.opened;
      }

  -- where nothing was drawn since
  pub event_before : step_count draw_count (longer o) ≡ step_count draw_count (lists o) → (j : ℕ) →
      IsEventAt script longer j → IsEventAt script lists j
  event_before same j is =
      let sum : step_count draw_count (longer o)
      ≡ step_count draw_count (lists o) + step_count draw_count start.0 =
      ap (step_count draw_count) start.1 ∙ step_count-append draw_count (lists o) start.0 in
      event_front j is
      (draw_front (lists o) start.0 j is.shown is.changes is.found (omega (arith, sum, same))
      (subst (λ steps. get_elem? steps j ≡ some (Draw is.shown is.changes is.found)) start.1 is.drawn))

module _ (script : ScriptModel) (before after : SeatView) (number : before.number ≡ opener_seat script)
    (drawn : HasDrawnLast before after) where
  abbrev seat : ℕ
  seat = opener_seat script

  abbrev front : List ClockStep
  front = own before ++ drawn.front

  before_is : lists_of before seat ≡ own before
  before_is = ap (lists_of before) (sym number)

  after_is : lists_of after seat ≡ front ++ Draw drawn.shown drawn.changes drawn.found ∷ []
  after_is =
      ap (lists_of after) (sym (drawn.number ∙ number)) ∙ drawn.steps
      ∙ sym (append_assoc (own before) drawn.front (Draw drawn.shown drawn.changes drawn.found ∷ []))

  pub grown : StartOf (lists_of before seat) (lists_of after seat)
  grown = (
    drawn.front ++ Draw drawn.shown drawn.changes drawn.found ∷ [],
    ap (lists_of after) (sym (drawn.number ∙ number)) ∙ drawn.steps
        ∙ ap (λ steps. steps ++ (drawn.front ++ Draw drawn.shown drawn.changes drawn.found ∷ [])) (sym before_is),
  )

  at_front : (j : ℕ) (is : IsEventAt script (lists_of after) j) → j < length front →
      get_elem? front j ≡ some (Draw is.shown is.changes is.found)
  at_front j is less =
      index_front front (Draw drawn.shown drawn.changes drawn.found ∷ []) j (Draw is.shown is.changes is.found) less
      (subst (λ steps. get_elem? steps j ≡ some (Draw is.shown is.changes is.found)) after_is is.drawn)

  at_end : (j : ℕ) (is : IsEventAt script (lists_of after) j) → length front ≤ j → j ≡ length front
  at_end j is more =
      let long : length (lists_of after seat) ≡ length front + 1 =
      ap length after_is ∙ length-append front (Draw drawn.shown drawn.changes drawn.found ∷ []) in
      omega (arith, more, long, index_within (lists_of after seat) j (Draw is.shown is.changes is.found) is.drawn)

  -- a restart or a closing, before which nothing was drawn
  pub event_last : step_count draw_count drawn.front ≡ 0 → (j : ℕ) → IsEventAt script (lists_of after) j →
      (IsEventAt script (lists_of before) j) ⊎ (j ≡ length (own before ++ drawn.front))
  event_last none j is =
      ⊎_elim
      (λ (less : j < length front).
      inl
      (event_front script (lists_of before) (lists_of after) grown j is
      (subst (λ steps. get_elem? steps j ≡ some (Draw is.shown is.changes is.found)) (sym before_is)
      (draw_front (own before) drawn.front j is.shown is.changes is.found none (at_front j is less)))))
      (λ (more : length front ≤ j). inr (at_end j is more)) (cases_lt j (length front))

  -- the last of the calls of `open`: each draw before leaves one to come
  pub event_opened : step_count draw_count (own after) ≡ (first_stand script).opening → (j : ℕ) →
      IsEventAt script (lists_of after) j → (IsEventAt script (lists_of before) j) ⊎ (j ≡ length (own before ++ drawn.front))
  event_opened count j is =
      ⊎_elim (λ (less : j < length front). absurd (too_early less)) (λ (more : length front ≤ j). inr (at_end j is more))
      (cases_lt j (length front))
    where
      too_early : j < length front → ⊥
      too_early less =
          let some_steps : List ClockStep = take (suc j) front in
          let same : take (suc j) (lists_of after seat) ≡ some_steps =
          ap (take (suc j)) after_is
          ∙ take-append-le (suc j) front (Draw drawn.shown drawn.changes drawn.found ∷ []) (omega (arith, less)) in
          let total : step_count draw_count (own after) ≡ step_count draw_count front + 1 =
          ap (step_count draw_count)
          (drawn.steps ∙ sym (append_assoc (own before) drawn.front (Draw drawn.shown drawn.changes drawn.found ∷ [])))
          ∙ step_count-append draw_count front (Draw drawn.shown drawn.changes drawn.found ∷ []) in
          let parts : step_count draw_count front
          ≡ step_count draw_count some_steps + step_count draw_count (drop (suc j) front) =
          ap (step_count draw_count) (sym (take-append-drop (suc j) front))
          ∙ step_count-append draw_count some_steps (drop (suc j) front) in
          let left : ℕ = step_count draw_count (drop (suc j) front) + 1 in
          let opening : (first_stand script).opening ≡ step_count draw_count some_steps + left =
          omega (arith, count, total, parts) in
          let stood : (stand_of script some_steps).opening ≡ left =
          ap (λ (stand : Stand). stand.opening) (opening_passed script some_steps (first_stand script) left opening) in
          let none : (stand_of script some_steps).opening ≡ 0 =
          subst (λ steps. (stand_of script steps).opening ≡ 0) same is.opened in
          omega (arith, stood, none)

-- The notes at the places of a lane before its next were executed or taken.
use Rattle.std.proofs.Common.{◌≡◌, ⊎_elim, ℕ, suc, ◌+◌, ◌<◌, ◌≤◌, cond, List, [], ◌∷◌, ◌++◌, Some, length, refl, sym, ap, subst, ◌∙◌, arith}
use mathlib.Core.Option.{some}
use lib.ListN.{get_elem?}
use Rattle.std.proofs.lemmas.Bool.{cases_lt}
use Rattle.asio_types.specs.declared.event.Event.{Event}
use Rattle.asio_types.specs.declared.event.Event.TheVariants as event
use Rattle.session_script.specs.Script.{ScriptModel}
use Rattle.strand_core.specs.Execution.{execution_of}
use Rattle.strand_core.specs.declared.posted.Posted.{Posted}
use Rattle.strand_core.specs.declared.posted.Posted.TheVariants as posted
use Rattle.lane_clock.specs.declared.found.Change.{Change}
use Rattle.lane_clock.specs.declared.found.Change.TheVariants as change
use Rattle.lane_clock.specs.declared.found.Found.{Found}
use Rattle.lane_clock.specs.declared.note.Note.{Note}
use Rattle.lane_clock.specs.declared.step.ClockStep.{ClockStep}
use Rattle.lane_clock.specs.declared.step.ClockStep.TheVariants.{Draw, Load, Look}
use Rattle.lane_clock.specs.Knowledge.{StartOf}
use Rattle.lane_clock.specs.Seats.{ClockId, own}
use Rattle.lane_logs.specs.Cuts.{HasStarted, HaveStarted}
use Rattle.lane_logs.specs.Labels.{AreDrawn, none_drawn, one_drawn, IsDrawn, begins, posts, dispatches, stops_context, returns, ends, Labelled, steps_in}
use Rattle.lane_logs.specs.LaneLog.{AreParts, MayFollow, steps_after}
use Rattle.lane_logs.specs.Names.{SessionNames}
use Rattle.lane_logs.specs.Parts.{Part, idle, executed, turned, failed, missing, TurnStart, takes, passes, end_labels, labels_in, labels_of, next_place, places_used, start_labels, takes_place}
use Rattle.lane_logs.proofs.LabelLemmas.{steps-append}
use Rattle.lane_turns.specs.Batons.{IsLane, LaneView, opener_known}
use Rattle.lane_turns.proofs.CutLemmas.{at_back, at_start}

-- what was started stays so in a longer list, and behind other steps
pub started_start : (xs all : List ClockStep) (lane place : ℕ) → StartOf xs all → HasStarted xs lane place →
    HasStarted all lane place
started_start xs all lane place start is =
    record {
      at = is.at;
      note = is.note;
      load = is.load;
      shown = is.shown;
      changes = is.changes;
      found = is.found;
      sees = at_start xs all is.at _ start is.sees;
      loads = at_start xs all (suc is.at) _ start is.loads;
      draws = at_start xs all (suc (suc is.at)) _ start is.draws;
    }

started_behind : (xs ys : List ClockStep) (lane place : ℕ) → HasStarted ys lane place → HasStarted (xs ++ ys) lane place
started_behind xs ys lane place is =
    let one : suc (length xs + is.at) ≡ length xs + suc is.at = omega arith in
    let two : suc (suc (length xs + is.at)) ≡ length xs + suc (suc is.at) = omega arith in
    record {
      at = length xs + is.at;
      note = is.note;
      load = is.load;
      shown = is.shown;
      changes = is.changes;
      found = is.found;
      sees = at_back xs ys is.at ∙ is.sees;
      loads = ap (get_elem? (xs ++ ys)) one ∙ at_back xs ys (suc is.at) ∙ is.loads;
      draws = ap (get_elem? (xs ++ ys)) two ∙ at_back xs ys (suc (suc is.at)) ∙ is.draws;
    }

-- the first step of some labels is a draw
record StartsByDraw (labels : List Labelled) : Type 0 where
  shown : Event
  changes : Change
  found : Found
  rest : List ClockStep
  same : steps_in labels ≡ Draw shown changes found ∷ rest

abbrev IsBegin : Posted → Type 0
IsBegin (posted.Begin op code size begun) = Unit {0}
IsBegin (posted.Call act) = ⊥
IsBegin (posted.Back act) = ⊥
IsBegin (posted.End op ran) = ⊥

-- where the first of some calls begins a handler, their first step is a draw
abbrev Heads : List Posted → List Labelled → Type 0
Heads [] labels = labels ≡ []
Heads (call ∷ calls) labels = IsBegin call → StartsByDraw labels

draws_begin : (script : ScriptModel) (call : Posted) (made : List Labelled) → IsDrawn script call made → IsBegin call →
    StartsByDraw made
draws_begin script _ _ (begins {op} {size} {with_code} {found}) is =
    record { shown = event.Begin op with_code size; changes = change.Same; found = found; rest = []; same = refl }
draws_begin script _ _ (posts going outside) is = absurd is
draws_begin script _ _ (dispatches going inside) is = absurd is
draws_begin script _ _ (stops_context stopping) is = absurd is
draws_begin script _ _ returns is = absurd is
draws_begin script _ _ ends is = absurd is

heads_on : (script : ScriptModel) (calls : List Posted) (call : Posted) (labels made : List Labelled) →
    Heads calls labels → IsDrawn script call made → Heads (calls ++ call ∷ []) (labels ++ made)
heads_on script [] call labels made none drawn =
    λ is. subst (λ front. StartsByDraw (front ++ made)) (sym none) (draws_begin script call made drawn is)
heads_on script (first ∷ calls) call labels made heads drawn =
    λ is.
    let was : StartsByDraw labels = heads is in
    record {
      shown = was.shown;
      changes = was.changes;
      found = was.found;
      rest = was.rest ++ steps_in made;
      same = steps-append labels made ∙ ap (λ steps. steps ++ steps_in made) was.same;
    }

heads_of : (script : ScriptModel) {calls : List Posted} {labels : List Labelled} → AreDrawn script calls labels →
    Heads calls labels
heads_of script none_drawn = refl
heads_of script (one_drawn {calls} {call} {labels} {made} before now) =
    heads_on script calls call labels made (heads_of script before) now

module _ (names : SessionNames) (opener : List ClockStep) (lane : ℕ) where
  -- a look that saw a note, a load and a draw
  started_here : (at place : ℕ) (note : Note) (load found : Found) (shown : Event) (changes : Change) (rest : List ClockStep) →
      place ≡ at →
      HasStarted (Look lane at (Some note) ∷ Load load ∷ Draw shown changes found ∷ rest) lane place
  started_here at place note load found shown changes rest same =
      record {
        at = 0;
        note = note;
        load = load;
        shown = shown;
        changes = changes;
        found = found;
        sees = ap (λ n. some (Look lane n (Some note))) (sym same);
        loads = refl;
        draws = refl;
      }

  turn_started : (start : TurnStart) (at place : ℕ) (load found : Found) (tail : List Labelled) → at ≤ place →
      place < at + cond (takes_place start) 1 0 →
      HasStarted (steps_in (start_labels names.script lane at load found start ++ tail)) lane place
  turn_started (takes note changes) at place load found tail behind less =
      started_here at place note load found (event.Take note.op) changes (steps_in tail) (omega (arith, behind, less))
  turn_started (passes shown) at place load found tail behind less = absurd (omega (arith, behind, less))

  part_started : (parts : List Part) (part : Part) → MayFollow names opener lane parts part → (place : ℕ) →
      next_place parts ≤ place → place < next_place parts + places_used part →
      HasStarted (steps_in (labels_in names.script lane part)) lane place
  part_started parts (idle step) follows place behind less = absurd (omega (arith, behind, less))
  part_started parts (executed part) follows place behind less =
      let head : Heads (part.calls) part.labels = heads_of names.script follows.drawn in
      let draw : StartsByDraw part.labels =
      begun part.calls part.labels head follows.whole.begun follows.whole.mark follows.whole.body follows.whole.is in
      subst (λ steps. HasStarted (Look lane part.place (Some part.note) ∷ Load part.load ∷ steps) lane place)
      (sym draw.same)
      (started_here part.place place part.note part.load draw.found draw.shown draw.changes draw.rest
      (omega (arith, behind, less, follows.next)))
    where
      begun : (calls : List Posted) (labels : List Labelled) → Heads calls labels → (at mark : ℕ) (body : List Posted) →
          calls ≡ execution_of part.note.op part.note.code part.note.size at mark body → StartsByDraw labels
      begun calls labels head at mark body is =
          let first : Heads (execution_of part.note.op part.note.code part.note.size at mark body) labels =
          subst (λ cs. Heads cs labels) is head in
          first tt
  part_started parts (turned part) follows place behind less =
      turn_started part.start part.place place part.load part.drawn (end_labels part.end)
      (omega (arith, behind, follows.next)) (omega (arith, less, follows.next))
  part_started parts (failed part) follows place behind less = absurd (omega (arith, behind, less))
  part_started parts (missing at note) follows place behind less = absurd (omega (arith, behind, less))

  parts_started : (parts : List Part) → AreParts names opener lane parts →
      HaveStarted (steps_after names opener lane parts) lane (next_place parts)
  parts_started [] are place less = absurd (omega (arith, less))
  parts_started (part ∷ parts) are place less =
      let front : List ClockStep = steps_after names opener lane parts in
      let last : List ClockStep = steps_in (labels_in names.script lane part) in
      let split : steps_after names opener lane (part ∷ parts) ≡ front ++ last =
      steps-append (labels_of names.script lane parts) (labels_in names.script lane part) in
      subst (λ steps. HasStarted steps lane place) (sym split)
      (⊎_elim
      (λ (before : place < next_place parts).
      started_start front (front ++ last) lane place (last, refl) (parts_started parts are.0 place before))
      (λ (behind : next_place parts ≤ place).
      started_behind front last lane place (part_started parts part are.1 place behind less))
      (cases_lt place (next_place parts)))

pub lane_started : (names : SessionNames) (clock : ClockId) (view : LaneView) → IsLane names clock view →
    HaveStarted (own view.pen.seat) view.pen.seat.number view.place
lane_started names clock view is place less =
    let all : HasStarted (own view.pen.seat) view.lane place =
    subst (λ steps. HasStarted steps view.lane place) (sym is.log.steps)
    (parts_started names (opener_known names.script view.pen.seat) view.lane is.log.parts is.log.are place
    (omega (arith, less, is.next))) in
    subst (λ n. HasStarted (own view.pen.seat) n place) (sym is.number) all

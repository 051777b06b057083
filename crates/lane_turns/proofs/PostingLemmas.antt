-- What a poster takes: a first part of what it takes, and after a call what follows it.
use Rattle.std.proofs.Common.{◌≡◌, ℕ, ◌+◌, ◌≤◌, Bool, true, false, cond, List, [], ◌∷◌, ◌++◌, length, refl, sym, ap, subst, arith, length-append}
use Rattle.std.specs.Prelude.{Some, nat_lt, slice_index}
use Rattle.asio_types.specs.declared.event.Event.{Event}
use Rattle.asio_types.specs.declared.event.Event.TheVariants as event
use Rattle.session_script.specs.Script.{ScriptModel}
use Rattle.strand_core.specs.Execution.{events_of}
use Rattle.strand_core.specs.declared.posted.Posted.{Posted}
use Rattle.strand_core.specs.declared.posted.Posted.TheVariants as posted
use Rattle.lane_clock.specs.declared.note.Note.{Note}
use Rattle.lane_clock.specs.declared.step.ClockStep.TheVariants.{Put}
use Rattle.lane_clock.specs.Steps.{draw_count, place_count, step_count}
use Rattle.lane_map.specs.LaneNumbers.{asked_lane, cells_of}
use Rattle.lane_logs.specs.Labels.{IsDrawn, begins, posts, dispatches, stops_context, returns, ends, Labelled, silent, entries_in, steps_in, put_within, call_note}
use Rattle.lane_logs.specs.Calls.{CallsActs}
use Rattle.lane_logs.proofs.OpeningLemmas.{shown_sum}
use Rattle.lane_turns.specs.Pens.{HasDrawnCall, PenView}
use Rattle.lane_turns.specs.Posting.{PosterView, TakesCalls, TakesNext}
use Rattle.lane_turns.proofs.PenLemmas.{may_go_on}

first_acts : (script : ScriptModel) (xs ys : List Posted) → CallsActs script (xs ++ ys) → CallsActs script xs
first_acts script [] ys all = tt
first_acts script (posted.Begin op code size begun ∷ xs) ys all = first_acts script xs ys all
first_acts script (posted.Call act ∷ xs) ys all = (all.0, first_acts script xs ys all.1)
first_acts script (posted.Back act ∷ xs) ys all = first_acts script xs ys all
first_acts script (posted.End op ran ∷ xs) ys all = first_acts script xs ys all

later_acts : (script : ScriptModel) (call : Posted) (ys : List Posted) → CallsActs script (call ∷ ys) → CallsActs script ys
later_acts script (posted.Begin op code size begun) ys all = all
later_acts script (posted.Call act) ys all = all.1
later_acts script (posted.Back act) ys all = all
later_acts script (posted.End op ran) ys all = all

-- a first part
pub takes_first : (script : ScriptModel) (pen : PenView) (spare : ℕ) (first rest : List Posted) →
    TakesCalls script pen spare (first ++ rest) → TakesCalls script pen spare first
takes_first script pen spare first rest taken =
    let all : length (first ++ rest) ≡ length first + length rest = length-append first rest in
    let shown : length (events_of script (first ++ rest))
    ≡ length (events_of script first) + length (events_of script rest) = shown_sum script first rest in
    record {
      buffer = omega (arith, taken.buffer, all);
      room = record {
        log = omega (arith, taken.room.log, shown);
        draws_left = omega (arith, taken.room.draws_left, shown);
        places_left = omega (arith, taken.room.places_left, all);
      };
      acts = first_acts script first rest taken.acts;
    }

-- what putting a note adds
pub put_entries : (within : Bool) (lane place : ℕ) (note : Note) →
    entries_in (cond within (silent (Put lane place note) ∷ []) []) ≡ []
put_entries true lane place note = refl
put_entries false lane place note = refl

pub put_draws : (within : Bool) (lane place : ℕ) (note : Note) →
    step_count draw_count (steps_in (cond within (silent (Put lane place note) ∷ []) [])) ≡ 0
put_draws true lane place note = refl
put_draws false lane place note = refl

pub put_places : (within : Bool) (lane place : ℕ) (note : Note) →
    step_count place_count (steps_in (cond within (silent (Put lane place note) ∷ []) [])) ≡ 0
put_places true lane place note = refl
put_places false lane place note = refl

abbrev events_of_call : Bool → ℕ → List Event
events_of_call stopping act =
    cond stopping (event.Call act ∷ event.Stop (Some act) ∷ []) (event.Call act ∷ [])

-- a call has as many entries and draws as events, and at most one place
pub record IsSized (script : ScriptModel) (call : Posted) (labels : List Labelled) : Type 0 where
  pub entries : length (entries_in labels) ≡ length (events_of script (call ∷ []))
  pub draws : step_count draw_count (steps_in labels) ≡ length (events_of script (call ∷ []))
  pub places : step_count place_count (steps_in labels) ≤ 1

pub sized : (script : ScriptModel) (call : Posted) (labels : List Labelled) → IsDrawn script call labels →
    IsSized script call labels
sized script _ _ begins = record { entries = refl; draws = refl; places = omega arith }
sized script _ _ (posts {act} {place} {found} going outside) =
    let one : length (events_of script (posted.Call act ∷ [])) ≡ 1 =
    ap (λ stopping. length (events_of_call stopping act)) going in
    let within : Bool = nat_lt place (slice_index (cells_of script) (asked_lane script act)) in
    let draws : step_count draw_count (steps_in (put_within script (asked_lane script act) place (call_note act))) ≡ 0 =
    put_draws within (asked_lane script act) place (call_note act) in
    let places : step_count place_count (steps_in (put_within script (asked_lane script act) place (call_note act))) ≡ 0 =
    put_places within (asked_lane script act) place (call_note act) in
    let entries : length (entries_in (put_within script (asked_lane script act) place (call_note act))) ≡ 0 =
    ap length (put_entries within (asked_lane script act) place (call_note act)) in
    record {
      entries = omega (arith, one, entries);
      draws = omega (arith, one, draws);
      places = omega (arith, places);
    }
sized script _ _ (dispatches {act} {found} going inside) =
    let one : length (events_of script (posted.Call act ∷ [])) ≡ 1 =
    ap (λ stopping. length (events_of_call stopping act)) going in
    record { entries = sym one; draws = sym one; places = omega arith }
sized script _ _ (stops_context {act} {called} {stopped} stopping) =
    let two : length (events_of script (posted.Call act ∷ [])) ≡ 2 =
    ap (λ stopping. length (events_of_call stopping act)) stopping in
    record { entries = sym two; draws = sym two; places = omega arith }
sized script _ _ returns = record { entries = refl; draws = refl; places = omega arith }
sized script _ _ ends = record { entries = refl; draws = refl; places = omega arith }

-- what follows a call
pub takes_rest : (script : ScriptModel) (call : Posted) (rest : List Posted) (old new : PenView) (spare left : ℕ) →
    HasDrawnCall script call old new → spare ≡ left + 1 →
    TakesCalls script old spare (call ∷ rest) → TakesCalls script new left rest
takes_rest script call rest old new spare left drawn less taken =
    let shown : length (events_of script (call ∷ rest))
    ≡ length (events_of script (call ∷ [])) + length (events_of script rest) = shown_sum script (call ∷ []) rest in
    let size : IsSized script call drawn.labels = sized script call drawn.labels drawn.drawn in
    record {
      buffer = omega (arith, taken.buffer, less);
      room =
          may_go_on drawn.labels _ _ (length (events_of script rest)) (length rest) old new drawn.gone taken.room
          (omega (arith, shown, size.entries)) (omega (arith, shown, size.draws)) (omega (arith, size.places));
      acts = later_acts script call rest taken.acts;
    }

pub takes_next : (call : Posted) (old new : PosterView) → old.script ≡ new.script →
    HasDrawnCall old.script call old.pen new.pen → old.spare ≡ new.spare + 1 →
    (rest : List Posted) → TakesNext old (call ∷ rest) → TakesNext new rest
takes_next call old new same drawn less rest taken first others parts =
    subst (λ script. TakesCalls script new.pen new.spare first) same
    (takes_rest old.script call first old.pen new.pen old.spare new.spare drawn less
    (taken (call ∷ first) others (ap (λ calls. call ∷ calls) parts)))

-- all of a list is taken with its first parts
pub takes_all : (view : PosterView) (calls : List Posted) → TakesCalls view.script view.pen view.spare calls →
    TakesNext view calls
takes_all view calls taken first rest parts =
    takes_first view.script view.pen view.spare first rest
    (subst (TakesCalls view.script view.pen view.spare) parts taken)

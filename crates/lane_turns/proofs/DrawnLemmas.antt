-- What calls that were drawn show, draw and place, and what begins in them.
use Rattle.std.proofs.Common.{◌≡◌, ℕ, ◌+◌, ◌≤◌, Bool, true, false, cond, List, [], ◌∷◌, ◌++◌, length, refl, sym, ap, ◌∙◌, arith, length-append}
use Rattle.std.specs.Prelude.{◌||◌, Some, nat_lt, slice_index, ◌==◌}
use Rattle.std.proofs.lemmas.List.{map-append}
use Rattle.std.proofs.lemmas.List.Folds.{list_any-append}
use Rattle.asio_types.specs.declared.event.Event.{Event}
use Rattle.asio_types.specs.declared.event.Event.TheVariants as event
use Rattle.session_script.specs.Script.{ScriptModel, stops}
use Rattle.strand_core.specs.Execution.{events_of}
use Rattle.strand_core.specs.Hands.{begins_among}
use Rattle.strand_core.specs.declared.posted.Posted.{Posted}
use Rattle.strand_core.specs.declared.posted.Posted.TheVariants as posted
use Rattle.strand_core.proofs.CallLemmas.{begins-append}
use Rattle.lane_clock.specs.declared.note.Note.{Note}
use Rattle.lane_clock.specs.declared.step.ClockStep.TheVariants.{Put}
use Rattle.lane_clock.specs.Steps.{draw_count, place_count, step_count}
use Rattle.lane_map.specs.LaneNumbers.{asked_lane, cells_of}
use Rattle.lane_logs.specs.declared.log.LogEntry.{LogEntry}
use Rattle.lane_logs.specs.Knowing.{joined_count}
use Rattle.lane_logs.specs.Labels.{AreDrawn, none_drawn, one_drawn, IsDrawn, begins, posts, dispatches, stops_context, returns, ends, Labelled, silent, call_note, entries_in, events_in, steps_in}
use Rattle.lane_logs.specs.LaneLog.{has_begun, is_begin_of}
use Rattle.lane_logs.proofs.LabelLemmas.{entries-append, steps-append}
use Rattle.lane_logs.proofs.OpeningLemmas.{shown_sum}
use Rattle.lane_turns.proofs.PenLemmas.{step_count-append}
use Rattle.lane_turns.proofs.PostingLemmas.{put_entries, sized}
use Rattle.lane_turns.proofs.SteppingLemmas.{joined_on}

-- nothing is taken in
pub put_quiet : (n : ℕ) (within : Bool) (lane place : ℕ) (note : Note) →
    joined_count n (steps_in (cond within (silent (Put lane place note) ∷ []) [])) ≡ 0
put_quiet n true lane place note = refl
put_quiet n false lane place note = refl

call_quiet : (script : ScriptModel) (n : ℕ) (call : Posted) (labels : List Labelled) → IsDrawn script call labels →
    joined_count n (steps_in labels) ≡ 0
call_quiet script n _ _ begins = refl
call_quiet script n _ _ (posts {act} {place} {found} going outside) =
    put_quiet n (nat_lt place (slice_index (cells_of script) (asked_lane script act))) (asked_lane script act) place
    (call_note act)
call_quiet script n _ _ (dispatches going inside) = refl
call_quiet script n _ _ (stops_context stopping) = refl
call_quiet script n _ _ returns = refl
call_quiet script n _ _ ends = refl

pub drawn_quiet : (script : ScriptModel) (n : ℕ) {calls : List Posted} {labels : List Labelled} →
    AreDrawn script calls labels → joined_count n (steps_in labels) ≡ 0
drawn_quiet script n none_drawn = refl
drawn_quiet script n (one_drawn {calls} {call} {labels} {made} before now) =
    ap (joined_count n) (steps-append labels made)
    ∙ joined_on n (steps_in labels) (steps_in made) (call_quiet script n call made now) ∙ drawn_quiet script n before

-- entries and draws are as many as events, and places no more
pub record AreSized (script : ScriptModel) (calls : List Posted) (labels : List Labelled) : Type 0 where
  pub entries : length (entries_in labels) ≡ length (events_of script calls)
  pub draws : step_count draw_count (steps_in labels) ≡ length (events_of script calls)
  pub places : step_count place_count (steps_in labels) ≤ length (events_of script calls)

some_event : (b : Bool) (first second : Event) (rest : List Event) →
    1 + length rest ≤ length (cond b (first ∷ second ∷ rest) (first ∷ rest))
some_event true first second rest = omega arith
some_event false first second rest = omega arith

-- each call shows an event at least
pub calls_shown : (script : ScriptModel) (calls : List Posted) → length calls ≤ length (events_of script calls)
calls_shown script [] = omega arith
calls_shown script (posted.Begin op code size begun ∷ calls) = omega (arith, calls_shown script calls)
calls_shown script (posted.Call act ∷ calls) =
    omega (
      arith,
      calls_shown script calls,
      some_event (stops script act) (event.Call act) (event.Stop (Some act)) (events_of script calls),
    )
calls_shown script (posted.Back act ∷ calls) = omega (arith, calls_shown script calls)
calls_shown script (posted.End op ran ∷ calls) = omega (arith, calls_shown script calls)

pub all_sized : (script : ScriptModel) {calls : List Posted} {labels : List Labelled} → AreDrawn script calls labels →
    AreSized script calls labels
all_sized script none_drawn = record { entries = refl; draws = refl; places = omega arith }
all_sized script (one_drawn {calls} {call} {labels} {made} before now) =
    let first = all_sized script before in
    let last = sized script call made now in
    let shown = shown_sum script calls (call ∷ []) in
    let entries : length (entries_in (labels ++ made)) ≡ length (entries_in labels) + length (entries_in made) =
    ap length (entries-append labels made) ∙ length-append (entries_in labels) (entries_in made) in
    let draws : step_count draw_count (steps_in (labels ++ made))
    ≡ step_count draw_count (steps_in labels) + step_count draw_count (steps_in made) =
    ap (step_count draw_count) (steps-append labels made)
    ∙ step_count-append draw_count (steps_in labels) (steps_in made) in
    let places : step_count place_count (steps_in (labels ++ made))
    ≡ step_count place_count (steps_in labels) + step_count place_count (steps_in made) =
    ap (step_count place_count) (steps-append labels made)
    ∙ step_count-append place_count (steps_in labels) (steps_in made) in
    record {
      entries = omega (arith, entries, first.entries, last.entries, shown);
      draws = omega (arith, draws, first.draws, last.draws, shown);
      places = omega (arith, places, first.places, last.places, shown, calls_shown script (call ∷ []));
    }

-- what begins in the events of a log begins in the calls
pub begun-append : (op : ℕ) (xs ys : List LogEntry) →
    has_begun op (events_in (xs ++ ys)) ≡ (has_begun op (events_in xs) || has_begun op (events_in ys))
begun-append op xs ys =
    ap (has_begun op) (map-append (λ (entry : LogEntry). entry.event) xs ys)
    ∙ list_any-append (is_begin_of op) (events_in xs) (events_in ys)

either_none : (b : Bool) → (b || false) ≡ cond b true false
either_none true = refl
either_none false = refl

put_begun : (op : ℕ) (within : Bool) (lane place : ℕ) (note : Note) →
    has_begun op (events_in (entries_in (cond within (silent (Put lane place note) ∷ []) []))) ≡ false
put_begun op within lane place note =
    ap (λ entries. has_begun op (events_in entries)) (put_entries within lane place note)

call_begun : (script : ScriptModel) (n : ℕ) (call : Posted) (labels : List Labelled) → IsDrawn script call labels →
    has_begun n (events_in (entries_in labels)) ≡ begins_among n (call ∷ [])
call_begun script n _ _ (begins {op}) = either_none (op == n)
call_begun script n _ _ (posts {act} {place} {found} going outside) =
    put_begun n (nat_lt place (slice_index (cells_of script) (asked_lane script act))) (asked_lane script act) place
    (call_note act)
call_begun script n _ _ (dispatches going inside) = refl
call_begun script n _ _ (stops_context stopping) = refl
call_begun script n _ _ returns = refl
call_begun script n _ _ ends = refl

pub drawn_begun : (script : ScriptModel) (n : ℕ) {calls : List Posted} {labels : List Labelled} →
    AreDrawn script calls labels → has_begun n (events_in (entries_in labels)) ≡ begins_among n calls
drawn_begun script n none_drawn = refl
drawn_begun script n (one_drawn {calls} {call} {labels} {made} before now) =
    ap (λ entries. has_begun n (events_in entries)) (entries-append labels made)
    ∙ begun-append n (entries_in labels) (entries_in made)
    ∙ ap (λ b. b || has_begun n (events_in (entries_in made))) (drawn_begun script n before)
    ∙ ap (λ b. begins_among n calls || b) (call_begun script n call made now) ∙ sym (begins-append n calls (call ∷ []))

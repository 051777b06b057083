-- The reactor's half to which a log leads, entry by entry, and the room for what may still be shown.
use Rattle.std.proofs.Common.{◌≡◌, ℕ, ◌+◌, ◌≤◌, Bool, List, [], ◌∷◌, ◌++◌, length, refl, ap, ◌∙◌, arith}
use Rattle.std.specs.Prelude.{nat_lt, slice_index}
use Rattle.asio_types.specs.declared.code.Code.{Code}
use Rattle.asio_types.specs.declared.event.Event.{Event}
use Rattle.asio_types.specs.declared.event.Event.TheVariants as event
use Rattle.session_script.specs.Script.{ScriptModel}
use Rattle.history_rules.specs.Legal.{reactor_after}
use Rattle.history_rules.specs.Requests.{reactor_after_done}
use Rattle.history_rules.specs.State.{ReactorHalf, first_reactor}
use Rattle.reactor_turns.specs.Ahead.{events_ahead}
use Rattle.lane_clock.specs.declared.found.Change.{Change}
use Rattle.lane_clock.specs.declared.found.Found.{Found}
use Rattle.lane_clock.specs.Steps.{draw_count, place_count, step_count}
use Rattle.lane_map.specs.LaneNumbers.{cells_of, home_lane}
use Rattle.lane_logs.specs.declared.log.LogEntry.{LogEntry}
use Rattle.lane_logs.specs.Half.{half_from}
use Rattle.lane_logs.specs.Labels.{Labelled, shows, entries_in, steps_in}
use Rattle.lane_logs.specs.Names.{SessionNames}
use Rattle.lane_logs.specs.ReactorTurns.{done_labels, done_note}
use Rattle.lane_turns.specs.Pens.{HasGone, PenView}
use Rattle.lane_turns.specs.Turning.{HasTurnRoom, log_half}
use Rattle.lane_turns.proofs.PenLemmas.{may_go_on}
use Rattle.lane_turns.proofs.PostingLemmas.{put_draws, put_entries, put_places}

pub half-append : (script : ScriptModel) (told : Bool) (half : ReactorHalf) (xs ys : List LogEntry) →
    half_from script told half (xs ++ ys) ≡ half_from script told (half_from script told half xs) ys
half-append script told half [] ys = refl
half-append script told half (x ∷ xs) ys = half-append script told (reactor_after script told half x.event) xs ys

-- behind some steps
pub log_on : (names : SessionNames) (labels : List Labelled) (old new : PenView) → HasGone labels old new →
    log_half names new.log ≡ half_from names.script names.told (log_half names old.log) (entries_in labels)
log_on names labels old new gone =
    ap (log_half names) gone.log
    ∙ half-append names.script names.told (first_reactor names.script names.told) old.log (entries_in labels)

-- behind steps that show nothing
pub log_still : (names : SessionNames) (labels : List Labelled) (old new : PenView) → HasGone labels old new →
    entries_in labels ≡ [] → log_half names new.log ≡ log_half names old.log
log_still names labels old new gone none =
    log_on names labels old new gone ∙ ap (half_from names.script names.told (log_half names old.log)) none

-- behind one event
pub log_event : (names : SessionNames) (shown : Event) (changes : Change) (found : Found) (old new : PenView) →
    HasGone (shows shown changes found ∷ []) old new →
    log_half names new.log ≡ reactor_after names.script names.told (log_half names old.log) shown
log_event names shown changes found old new gone = log_on names (shows shown changes found ∷ []) old new gone

-- room after so many events at most
pub room_on : (names : SessionNames) (labels : List Labelled) (k : ℕ) (old new : PenView) (next : ReactorHalf) →
    HasGone labels old new → log_half names new.log ≡ next → length (entries_in labels) ≤ k →
    step_count draw_count (steps_in labels) ≤ k → step_count place_count (steps_in labels) ≤ k →
    events_ahead names.script next + k ≤ events_ahead names.script (log_half names old.log) →
    HasTurnRoom names old → HasTurnRoom names new
room_on names labels k old new next gone same entries draws places less room =
    let e : events_ahead names.script (log_half names new.log) ≡ events_ahead names.script next =
    ap (events_ahead names.script) same in
    may_go_on labels (events_ahead names.script (log_half names old.log)) (events_ahead names.script (log_half names old.log))
    (events_ahead names.script (log_half names new.log)) (events_ahead names.script (log_half names new.log)) old new gone
    room (omega (arith, e, entries, less)) (omega (arith, e, draws, less)) (omega (arith, e, places, less))

-- and after steps that show nothing
pub room_still : (names : SessionNames) (labels : List Labelled) (old new : PenView) → HasGone labels old new →
    entries_in labels ≡ [] → step_count draw_count (steps_in labels) ≡ 0 →
    step_count place_count (steps_in labels) ≡ 0 → HasTurnRoom names old → HasTurnRoom names new
room_still names labels old new gone none draws places room =
    let entries : length (entries_in labels) ≡ 0 = ap length none in
    room_on names labels 0 old new (log_half names old.log) gone (log_still names labels old new gone none)
    (omega (arith, entries)) (omega (arith, draws)) (omega (arith, places)) (omega arith) room

-- one completion
module _ (script : ScriptModel) (op : ℕ) (with_code : Code) (size place : ℕ) (found : Found) where
  abbrev within : Bool
  within = nat_lt place (slice_index (cells_of script) (home_lane script op))

  abbrev done_entry : LogEntry
  done_entry = record { position = found.clock; event = event.Done op with_code size }

  pub done_entries : entries_in (done_labels script op with_code size place found) ≡ done_entry ∷ []
  done_entries =
      ap (λ more. done_entry ∷ more) (put_entries within (home_lane script op) place (done_note op with_code size))

  pub done_draws : step_count draw_count (steps_in (done_labels script op with_code size place found)) ≡ 1
  done_draws =
      let none = put_draws within (home_lane script op) place (done_note op with_code size) in omega (arith, none)

  pub done_places : step_count place_count (steps_in (done_labels script op with_code size place found)) ≡ 1
  done_places =
      let none = put_places within (home_lane script op) place (done_note op with_code size) in omega (arith, none)

  pub done_half : (told : Bool) (half : ReactorHalf) →
      half_from script told half (entries_in (done_labels script op with_code size place found))
      ≡ reactor_after_done script half op
  done_half told half = ap (half_from script told half) done_entries

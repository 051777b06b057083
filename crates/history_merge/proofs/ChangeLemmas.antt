-- Each draw changes what its event changes: the outstanding work, and the stops.
use Rattle.std.proofs.Common.{◌≡◌, ℕ, ◌+◌, Bool, true, false, cond, List, [], ◌∷◌, None, map, refl, sym, ap, subst, arith}
use Rattle.std.specs.Prelude.{nat_lt, slice_index}
use mathlib.Core.Option.{some}
use lib.ListN.{get_elem?}
use Rattle.asio_types.specs.declared.event.Event.{Event}
use Rattle.asio_types.specs.declared.event.Event.TheVariants as event
use Rattle.asio_types.specs.declared.outside.Point.{Point}
use Rattle.asio_types.specs.declared.outside.Point.TheVariants as point
use Rattle.session_script.specs.Script.{ScriptModel, stops}
use Rattle.history_rules.specs.Kinds.{is_act, is_control}
use Rattle.history_rules.specs.State.{ReactorHalf}
use Rattle.history_rules.specs.Time.{next_time}
use Rattle.strand_core.specs.declared.posted.Posted.{Posted}
use Rattle.lane_clock.specs.declared.found.Change.{Change}
use Rattle.lane_clock.specs.declared.found.Change.TheVariants as change
use Rattle.lane_clock.specs.declared.found.Found.{Found}
use Rattle.lane_clock.specs.declared.note.Note.{Note}
use Rattle.lane_clock.specs.declared.step.ClockStep.{ClockStep}
use Rattle.lane_clock.specs.declared.step.ClockStep.TheVariants.{Look, Put}
use Rattle.lane_clock.specs.Changes.{stop_of}
use Rattle.lane_map.specs.LaneNumbers.{asked_lane, cells_of, home_lane}
use Rattle.lane_logs.specs.Labels.{AreDrawn, IsDrawn, Labelled, allots, begins, call_note, dispatches, ends, none_drawn, one_drawn, posts, returns, shows, silent, stops_context}
use Rattle.lane_logs.specs.LaneLog.{MayFollow}
use Rattle.lane_logs.specs.Logs.{LogsView}
use Rattle.lane_logs.specs.Names.{SessionNames}
use Rattle.lane_logs.specs.OpenerLog.{ClosedPart, Closes, Looked, MayFollowOpened, OpenerPart, closed, closing_change, look_label, opened, opener_labels, resting, restarted}
use Rattle.lane_logs.specs.Parts.{Part, TurnEnd, TurnStart, end_labels, executed, failed, fails, idle, labels_in, looks_empty, missing, passes, start_labels, takes, tells, turned}
use Rattle.lane_logs.specs.ReactorTurns.{AreTold, EndsTurn, MayStartTurn, done_labels, done_note, lets_go, none_told, one_told, point_event}
use Rattle.lane_logs.specs.SeatNumbers.{opener_seat}
use Rattle.lane_logs.specs.WorkerLog.{MayFollowStopped, WorkerPart, stopped, waiting}
use Rattle.history_merge.proofs.LabellingLemmas.{AreLabels, each_label}
use Rattle.history_merge.proofs.PartLemmas.{Every, every-append, labels_worker}
use Rattle.history_merge.proofs.StopLemmas.{Halts, halts_with}
use Rattle.history_merge.proofs.WorkLemmas.{change_by}

-- a draw changes what its event changes; what a take changes turns on the reactor's half
abbrev pub IsChangeOf : ScriptModel → ReactorHalf → Event → Change → Type 0
IsChangeOf script half (event.Take a) changes = Unit {0}
IsChangeOf script half shown changes = changes ≡ change_by script half shown

abbrev pub HasChange : ScriptModel → Labelled → Type 0
HasChange script (silent step) = Unit {0}
HasChange script (shows shown changes found) = (half : ReactorHalf) → IsChangeOf script half shown changes
HasChange script (allots act lane place) = Unit {0}

module _ (script : ScriptModel) where
  put_changes : (within : Bool) (lane place : ℕ) (note : Note) →
      Every (HasChange script) (cond within (silent (Put lane place note) ∷ []) [])
  put_changes true lane place note = (tt, tt)
  put_changes false lane place note = tt

  look_changes : (within : Bool) (lane place : ℕ) →
      Every (HasChange script) (cond within (silent (Look lane place None) ∷ []) [])
  look_changes true lane place = (tt, tt)
  look_changes false lane place = tt

  looks_change : (looks : List Looked) → Every (HasChange script) (map look_label looks)
  looks_change [] = tt
  looks_change (look ∷ looks) = (tt, looks_change looks)

  going_change : (act : ℕ) → stops script act ≡ false → change.Up ≡ cond (stops script act) change.Same change.Up
  going_change act isnt = ap (λ halts. cond halts change.Same change.Up) (sym isnt)

  stopping_change : (act : ℕ) → stops script act ≡ true → change.Same ≡ cond (stops script act) change.Same change.Up
  stopping_change act is = ap (λ halts. cond halts change.Same change.Up) (sym is)

  call_changes : {made : Posted} {labels : List Labelled} → IsDrawn script made labels → Every (HasChange script) labels
  call_changes begins = ((λ half. refl), tt)
  call_changes (posts {act} {place} {found} isnt outside) = (
    (λ half. going_change act isnt),
    (tt, put_changes (nat_lt place (slice_index (cells_of script) (asked_lane script act))) _ place (call_note act)),
  )
  call_changes (dispatches {act} {found} isnt within) = ((λ half. going_change act isnt), tt)
  call_changes (stops_context {act} {called} {stopped} is) = ((λ half. stopping_change act is), ((λ half. refl), tt))
  call_changes returns = ((λ half. refl), tt)
  call_changes ends = ((λ half. refl), tt)

  calls_change : {calls : List Posted} {labels : List Labelled} → AreDrawn script calls labels →
      Every (HasChange script) labels
  calls_change none_drawn = tt
  calls_change (one_drawn {calls} {call = one} {labels} {made} before now) =
      every-append (HasChange script) labels made (calls_change before) (call_changes now)

  told_changes : (told : Bool) (from : ReactorHalf) {labels : List Labelled} → AreTold script told from labels →
      Every (HasChange script) labels
  told_changes told from none_told = tt
  told_changes told from (one_told {labels} op with_code size place found before may) =
      every-append (HasChange script) labels (done_labels script op with_code size place found)
      (told_changes told from before) (
        tt,
        (
          (λ half. refl),
          put_changes (nat_lt place (slice_index (cells_of script) (home_lane script op))) _ place
              (done_note op with_code size),
        ),
      )

  end_changes : (told : Bool) (from : ReactorHalf) (end : TurnEnd) → EndsTurn script told from end →
      Every (HasChange script) (end_labels end)
  end_changes told from (tells labels) is = told_changes told from is.told_so
  end_changes told from (fails found) is = ((λ half. refl), tt)

  point_changes : (to : Point) (found : Found) → HasChange script (shows (point_event to) change.Same found)
  point_changes (point.Time now) found = λ half. refl
  point_changes point.Last found = λ half. refl

  empty_changes : (lane place : ℕ) → Every (HasChange script) (looks_empty script lane place)
  empty_changes lane place = look_changes (nat_lt place (slice_index (cells_of script) lane)) lane place

  start_changes : (lane : ℕ) (half : ReactorHalf) (running : Bool) (place : ℕ) (load drawn : Found) (start : TurnStart) →
      MayStartTurn script half running load start →
      Every (HasChange script) (start_labels script lane place load drawn start)
  start_changes lane half running place load drawn (takes note changes) may = (tt, (tt, ((λ half. tt), tt)))
  start_changes lane half running place load drawn (passes shown) may =
      every-append (HasChange script) (looks_empty script lane place) _ (empty_changes lane place) (
        tt,
        (
          subst (λ shown. HasChange script (shows shown change.Same drawn)) (sym may.next)
              (point_changes (next_time script half) drawn),
          tt,
        ),
      )

  closing_changes : (lists : ℕ → List ClockStep) (earlier : List OpenerPart) (part : ClosedPart) (shown : Event)
      (drawn : Found) → Closes script lists earlier part shown →
      HasChange script (shows shown (closing_change shown) drawn)
  closing_changes lists earlier part event.Ended drawn closes = λ half. refl
  closing_changes lists earlier part event.Stopped drawn closes = λ half. refl
  closing_changes lists earlier part event.Polled drawn closes = λ half. refl
  closing_changes lists earlier part other drawn closes = absurd closes

  opener_changes : (lists : ℕ → List ClockStep) (earlier : List OpenerPart) (part : OpenerPart) →
      MayFollowOpened script lists earlier part → Every (HasChange script) (opener_labels part)
  opener_changes lists earlier (resting step) may = (tt, tt)
  opener_changes lists earlier (opened calls labels) may = calls_change may.drawn
  opener_changes lists earlier (restarted drawn) may = ((λ half. refl), tt)
  opener_changes lists earlier (closed part) may = (
    tt,
    every-append (HasChange script) (map look_label part.looks) _ (looks_change part.looks)
        (closing_changes lists earlier part part.shown part.drawn may.closes, tt),
  )

  worker_changes : (opener : List ClockStep) (earlier : List WorkerPart) (part : WorkerPart) →
      MayFollowStopped script opener earlier part → Every (HasChange script) (labels_worker part)
  worker_changes opener earlier (waiting step) may = (tt, tt)
  worker_changes opener earlier (stopped drawn) may = ((λ half. refl), tt)

module _ (names : SessionNames) (opener : List ClockStep) (lane : ℕ) where
  lane_changes : (earlier : List Part) (part : Part) → MayFollow names opener lane earlier part →
      Every (HasChange names.script) (labels_in names.script lane part)
  lane_changes earlier (idle step) may = (tt, tt)
  lane_changes earlier (executed part) may = (tt, (tt, calls_change names.script may.drawn))
  lane_changes earlier (turned part) may =
      every-append (HasChange names.script)
      (start_labels names.script lane part.place part.load part.drawn part.start) (end_labels part.end)
      (start_changes names.script lane _ _ part.place part.load part.drawn part.start may.starts)
      (end_changes names.script names.told _ part.end may.ends)
  lane_changes earlier (failed part) may =
      every-append (HasChange names.script) (looks_empty names.script lane part.place) _
      (empty_changes names.script lane part.place) (tt, ((λ half. refl), tt))
  lane_changes earlier (missing place note) may = (tt, tt)

-- so it is of each label
pub label_changes : (names : SessionNames) (logs : LogsView) (labels : ℕ → List Labelled) → AreLabels names logs labels →
    (n i : ℕ) (label : Labelled) → get_elem? (labels n) i ≡ some label → HasChange names.script label
label_changes names logs labels are =
    each_label names logs labels are (λ n label. HasChange names.script label)
    (λ lane within earlier part may. lane_changes names (logs.lists (opener_seat names.script)) lane earlier part may)
    (λ n earlier part may. worker_changes names.script (logs.lists (opener_seat names.script)) earlier part may)
    (λ earlier part may. opener_changes names.script logs.lists earlier part may)

-- and the stops
take_halts : (control goes : Bool) → stop_of (cond control (cond goes change.DownTwo change.Down) change.Same) ≡ 0
take_halts true true = refl
take_halts true false = refl
take_halts false goes = refl

call_halts : (halts : Bool) → stop_of (cond halts change.Same change.Up) ≡ 0
call_halts true = refl
call_halts false = refl

pub halts_change : (script : ScriptModel) (half : ReactorHalf) (shown : Event) (halts : Halts) →
    (halts_with shown halts).stops ≡ halts.stops + stop_of (change_by script half shown)
halts_change script half (event.Call a) halts = let none = call_halts (stops script a) in omega (arith, none)
halts_change script half (event.Take a) halts =
    let none = take_halts (is_act is_control script a) (lets_go script half a) in omega (arith, none)
halts_change script half (event.Stop by) halts = refl
halts_change script half other halts = omega arith

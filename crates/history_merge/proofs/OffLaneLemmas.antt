-- What a number shows is of no other lane's handler, and no handler is destroyed by it.
use Rattle.std.proofs.Common.{◌≡◌, ◌≢◌, ℕ, suc, Bool, true, false, cond, List, [], ◌∷◌, Some, None, map, refl, sym, subst, ◌∙◌}
use Rattle.std.specs.Prelude.{slice_get}
use Rattle.asio_types.specs.declared.event.Event.{Event}
use Rattle.asio_types.specs.declared.event.Event.TheVariants as event
use Rattle.asio_types.specs.declared.number.Lane.{Lane}
use Rattle.session_script.specs.Script.{Place, ScriptModel, parent_of, stops}
use Rattle.session_script.specs.Lanes.{lane_of}
use Rattle.session_script.specs.WellFormed.{IsWellFormed}
use Rattle.strand_core.specs.Execution.{AnyMark, AreCalls, events_of, inside, no_act, outside}
use Rattle.strand_core.specs.declared.posted.Posted.{Posted}
use Rattle.execution_laws.proofs.PlaceLemmas.{parent_is}
use Rattle.lane_clock.specs.declared.step.ClockStep.{ClockStep}
use Rattle.lane_logs.specs.Labels.{Labelled, allots, entries_in, events_in, shows, silent}
use Rattle.lane_logs.specs.OpenerLog.{ClosedPart, Closes, Looked, MayFollowOpened, OpenerPart, closed, look_label, opened, opener_labels, resting, restarted}
use Rattle.lane_logs.specs.WorkerLog.{MayFollowStopped, WorkerPart, stopped, waiting}
use Rattle.history_merge.specs.Among.{IsPlaceOff, IsPlaceOn}
use Rattle.history_merge.proofs.AskLemmas.{IsNoDrop}
use Rattle.history_merge.proofs.BodyLaneLemmas.{IsOwn, inline_place}
use Rattle.history_merge.proofs.DrawnLemmas.{drawn_shown}
use Rattle.history_merge.proofs.EachLabelLemmas.{is_of_turn}
use Rattle.history_merge.proofs.EventOrderLemmas.{IsOffLane}
use Rattle.history_merge.proofs.PartLemmas.{Every, every-append, labels_worker}

-- what is a lane's own is off each other
place_off : (script : ScriptModel) (one lane : Lane) (place : Place) → IsPlaceOn script one place → one ≢ lane →
    IsPlaceOff script lane place
place_off script one lane None on other = absurd on
place_off script one lane (Some at) on other = λ is. other (sym on ∙ is)

pub own_off : (script : ScriptModel) (one lane : Lane) (shown : Event) → IsOwn script one shown → one ≢ lane →
    IsOffLane script lane shown
own_off script one lane (event.Call a) own other = place_off script one lane (parent_of script a) own other
own_off script one lane (event.Stop (Some a)) own other = place_off script one lane (parent_of script a) own other
own_off script one lane (event.Back a) own other = place_off script one lane (parent_of script a) own other
own_off script one lane (event.Begin o given size) own other = λ is. other (sym own.1 ∙ is)
own_off script one lane (event.End o mark) own other = λ is. other (sym own ∙ is)
own_off script one lane _ own other = absurd own

pub own_alive : (script : ScriptModel) (one : Lane) (shown : Event) → IsOwn script one shown → IsNoDrop shown
own_alive script one (event.Dropped o mark) own = absurd own
own_alive script one other own = tt

pub turn_off : (script : ScriptModel) (lane : Lane) (shown : Event) → is_of_turn shown ≡ true → IsOffLane script lane shown
turn_off script lane (event.Take a) is = tt
turn_off script lane (event.Done o given size) is = tt
turn_off script lane (event.Tick at) is = tt
turn_off script lane event.Last is = tt
turn_off script lane event.Fault is = tt
turn_off script lane _ is = absurd (cc)

pub turn_alive : (shown : Event) → is_of_turn shown ≡ true → IsNoDrop shown
turn_alive (event.Dropped o mark) is = absurd (cc)
turn_alive other is = tt

-- the event is of no lane's handler
pub record IsOffAll (script : ScriptModel) (shown : Event) : Type 0 where
  pub off : (lane : Lane) → IsOffLane script lane shown
  pub alive : IsNoDrop shown

abbrev AreOffAll : ScriptModel → List Event → Type 0
AreOffAll script [] = Unit {0}
AreOffAll script (shown ∷ events) = IsOffAll script shown × AreOffAll script events

abbrev pub OffLabel : ScriptModel → Labelled → Type 0
OffLabel script (silent step) = Unit {0}
OffLabel script (shows shown changes found) = IsOffAll script shown
OffLabel script (allots act lane place) = Unit {0}

module _ (script : ScriptModel) (well : IsWellFormed script) where
  off_labels : (labels : List Labelled) → AreOffAll script (events_in (entries_in labels)) → Every (OffLabel script) labels
  off_labels [] all = tt
  off_labels (silent step ∷ labels) all = (tt, off_labels labels all)
  off_labels (shows shown changes found ∷ labels) all = (all.0, off_labels labels all.1)
  off_labels (allots act lane place ∷ labels) all = (tt, off_labels labels all)

  off_place : (a : ℕ) → parent_of script a ≡ None → (lane : Lane) → IsPlaceOff script lane (parent_of script a)
  off_place a root lane = subst (IsPlaceOff script lane) (sym root) tt

  off_called : (b : Bool) (a : ℕ) (events : List Event) → parent_of script a ≡ None → AreOffAll script events →
      AreOffAll script (cond b (event.Call a ∷ event.Stop (Some a) ∷ events) (event.Call a ∷ events))
  off_called true a events root rest = (
    record { off = off_place a root; alive = tt },
    (record { off = off_place a root; alive = tt }, rest),
  )
  off_called false a events root rest = (record { off = off_place a root; alive = tt }, rest)

  off_calls : {acts : List ℕ} {calls : List Posted} → AreCalls script AnyMark acts calls →
      ((i n : ℕ) → slice_get acts i ≡ Some n → parent_of script n ≡ None) → AreOffAll script (events_of script calls)
  off_calls no_act each = tt
  off_calls (outside {act} {acts} {calls} isnt more) each =
      off_called (stops script act) act (event.Back act ∷ events_of script calls) (each 0 act refl)
      (record { off = off_place act (each 0 act refl); alive = tt }, off_calls more (λ i n at. each (suc i) n at))
  off_calls (inside {act} {begun} {mark} {acts} {body} {calls} is marked inner more) each =
      absurd (subst (IsPlaceOn script (lane_of script act)) (each 0 act refl) (inline_place script well act is))

  looks_off : (looks : List Looked) → Every (OffLabel script) (map look_label looks)
  looks_off [] = tt
  looks_off (look ∷ looks) = (tt, looks_off looks)

  closing_off : (lists : ℕ → List ClockStep) (earlier : List OpenerPart) (part : ClosedPart) (shown : Event) →
      Closes script lists earlier part shown → IsOffAll script shown
  closing_off lists earlier part event.Ended closes = record { off = λ lane. tt; alive = tt }
  closing_off lists earlier part event.Stopped closes = record { off = λ lane. tt; alive = tt }
  closing_off lists earlier part event.Polled closes = record { off = λ lane. tt; alive = tt }
  closing_off lists earlier part other closes = absurd closes

  pub opener_off : (lists : ℕ → List ClockStep) (earlier : List OpenerPart) (part : OpenerPart) →
      MayFollowOpened script lists earlier part → Every (OffLabel script) (opener_labels part)
  opener_off lists earlier (resting step) may = (tt, tt)
  opener_off lists earlier (opened calls labels) may =
      off_labels labels
      (subst (AreOffAll script) (sym (drawn_shown script may.drawn))
      (off_calls may.acts (λ i n at. parent_is script well None n i at)))
  opener_off lists earlier (restarted drawn) may = (record { off = λ lane. tt; alive = tt }, tt)
  opener_off lists earlier (closed part) may = (
    tt,
    every-append (OffLabel script) (map look_label part.looks) _ (looks_off part.looks)
        (closing_off lists earlier part part.shown may.closes, tt),
  )

  pub worker_off : (opener : List ClockStep) (earlier : List WorkerPart) (part : WorkerPart) →
      MayFollowStopped script opener earlier part → Every (OffLabel script) (labels_worker part)
  worker_off opener earlier (waiting step) may = (tt, tt)
  worker_off opener earlier (stopped drawn) may = (record { off = λ lane. tt; alive = tt }, tt)

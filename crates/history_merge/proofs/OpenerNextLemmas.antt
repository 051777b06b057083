-- All that is asked of a step holds of each step of the opener and of a worker; and of any step, that stops are few.
use Rattle.std.proofs.Common.{◌≡◌, ◌≢◌, ℕ, ◌<◌, ◌^◌, true, false, List, ◌∷◌, length, refl, ap, ◌∙◌, arith}
use mathlib.Core.Option.{some}
use Rattle.asio_types.specs.declared.event.Event.{Event}
use Rattle.asio_types.specs.declared.event.Event.TheVariants as event
use Rattle.session_script.specs.Script.{ScriptModel}
use Rattle.session_script.specs.WellFormed.{IsWellFormed}
use Rattle.history_rules.specs.Legal.{MayHappen}
use Rattle.history_rules.specs.State.{State, first_state}
use Rattle.lane_clock.specs.declared.found.Change.{Change}
use Rattle.lane_clock.specs.declared.found.Found.{Found}
use Rattle.lane_clock.specs.History.{ClockEvent, steps_under}
use Rattle.lane_clock.proofs.MomentLemmas.{Tail, tail_more, tail_refl}
use Rattle.lane_map.specs.LaneNumbers.{reactor_lane}
use Rattle.lane_map.proofs.NumberLemmas.{lane_count as lanes_counted}
use Rattle.lane_logs.specs.Labels.{Labelled, allots, shows, silent}
use Rattle.lane_logs.specs.Logs.{AreLogs, LogsView}
use Rattle.lane_logs.specs.Names.{SessionNames}
use Rattle.lane_logs.specs.SeatNumbers.{IsWorkerSeat, opener_seat}
use Rattle.history_merge.proofs.AskLemmas.{IsNoDrop}
use Rattle.history_merge.proofs.CalledLemmas.{AreExpected}
use Rattle.history_merge.proofs.CellRoomLemmas.{cells_room}
use Rattle.history_merge.proofs.EachLabelLemmas.{is_of_turn}
use Rattle.history_merge.proofs.FewStopsLemmas.{few_stops}
use Rattle.history_merge.proofs.GoingNextLemmas.{IsExpectedLabel}
use Rattle.history_merge.proofs.HalfLemmas.{off_turn}
use Rattle.history_merge.proofs.HistoryLemmas.{AreLabelled, label_of, shown_by, shown_in}
use Rattle.history_merge.proofs.LabellingLemmas.{AreLabels}
use Rattle.history_merge.proofs.OpenerMayLemmas.{opener_event, worker_may}
use Rattle.history_merge.proofs.OrderlyLemmas.{IsExpected}
use Rattle.history_merge.proofs.SoFarLemmas.{MayShow, legal_next}
use Rattle.history_merge.proofs.SoLemmas.{IsSo, events_so, state_so}
use Rattle.history_merge.proofs.SoNextLemmas.{IsNextStep, expected-append}
use Rattle.history_merge.proofs.StagedLemmas.{labelled_to, off_others}
use Rattle.history_merge.proofs.StopLemmas.{halts_of}

module _ (names : SessionNames) (well : IsWellFormed names.script) (logs : LogsView) (labels : ℕ → List Labelled)
    (logged : AreLogs names logs) (are : AreLabels names logs labels) (e : ClockEvent) (es : List ClockEvent)
    (tail : Tail (e ∷ es) logged.closed.history) where
  abbrev script : ScriptModel
  script = names.script

  abbrev next_label : Labelled
  next_label = label_of labels es e

  abbrev s : State
  s = state_so names logs labels are es

  all : AreLabelled labels (e ∷ es)
  all = labelled_to names well logs labels logged are (e ∷ es) tail

  -- whatever the next step shows, if it may happen and is expected, stops are few
  pub few_next : IsSo names logs labels are es → MayShow names.script names.told (label_of labels es e) (state_so names logs labels are es) →
      IsExpectedLabel (state_so names logs labels are es).context (label_of labels es e) →
      (halts_of (events_so names logs labels are (e ∷ es))).stops < 2 ^ 16
  few_next so may expected =
      few_stops names well logs labels logged are (e ∷ es) tail all
      (legal_next script names.told labels e es so.legal may)
      (expected-append script names.told (first_state script names.told) (shown_in labels es) (shown_by next_label) so.expected
      (by_label next_label may expected))
    where
      by_label : (label : Labelled) → MayShow names.script names.told label (state_so names logs labels are es) →
          IsExpectedLabel (state_so names logs labels are es).context label →
          AreExpected names.script names.told (state_so names logs labels are es) (shown_by label)
      by_label (silent step) may expected = tt
      by_label (allots act lane place) may expected = tt
      by_label (shows shown changes found) may expected = (may, expected, tt)

  -- what is no event of a turn is expected, where it destroys nothing
  expected_by : (shown : Event) → is_of_turn shown ≡ false → IsNoDrop shown → IsExpected s.context shown
  expected_by (event.Done o given size) isnt alive = absurd (cc)
  expected_by (event.Dropped o mark) isnt alive = absurd alive
  expected_by other isnt alive = tt

  away : e.by ≢ reactor_lane names.script → (shown : Event) (changes : Change) (found : Found) →
      next_label ≡ shows shown changes found → is_of_turn shown ≡ false
  away other shown changes found is =
      off_turn names logs labels are e.by (length (steps_under e.by es)) (shows shown changes found)
      (all.1.there ∙ ap some is) other

  module _ (so : (a : List ClockEvent) → Tail a es → IsSo names logs labels are a) (other : e.by ≢ reactor_lane names.script)
      (may : (shown : Event) (changes : Change) (found : Found) → label_of labels es e ≡ shows shown changes found →
      MayHappen names.script names.told (state_so names logs labels are es) shown) where
    abbrev now : IsSo names logs labels are es
    now = so es (tail_refl es)

    may_by : (label : Labelled) → next_label ≡ label → MayShow script names.told label s
    may_by (silent step) is = tt
    may_by (allots act lane place) is = tt
    may_by (shows shown changes found) is = may shown changes found is

    expects : (label : Labelled) → next_label ≡ label → IsExpectedLabel s.context label
    expects (silent step) is = tt
    expects (allots act lane place) is = tt
    expects (shows shown changes found) is =
        expected_by shown (away other shown changes found is)
        (off_others names well logs labels logged are e es tail now shown changes found is).alive

    -- so the step may be made
    pub next_step : IsNextStep names well logs labels logged are e es tail now
    next_step = record {
      may = may_by next_label refl;
      expected = expects next_label refl;
      takes = λ a changes found is.
          absurd (let wrong : true ≡ false = away other (event.Take a) changes found is in cc);
      few = few_next now (may_by next_label refl) (expects next_label refl);
    }

  -- a step of a worker
  pub worker_next : (so : (a : List ClockEvent) → Tail a es → IsSo names logs labels are a) → IsWorkerSeat names.script e.by →
      IsNextStep names well logs labels logged are e es tail (so es (tail_refl es))
  worker_next so worker =
      next_step so
      (λ same.
      let count = lanes_counted script in let behind = worker.behind in absurd (omega (arith, same, count, behind)))
      (λ shown changes found is. worker_may names well logs labels logged are e es tail all shown changes found is worker)

  -- and one of the opener
  pub opener_next : (so : (a : List ClockEvent) → Tail a es → IsSo names logs labels are a) →
      e.by ≡ opener_seat names.script → IsNextStep names well logs labels logged are e es tail (so es (tail_refl es))
  opener_next so by =
      next_step so
      (λ same. let count = lanes_counted script in absurd (omega (arith, same, count, by)))
      (λ shown changes found is.
      opener_event names well logs labels logged are e es tail all shown changes found is by so
      (cells_room names well logs labels are logged es (tail_more es e logged.closed.history tail) all.0
      (so es (tail_refl es)).expected))

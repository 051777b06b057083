-- Whatever the opener and the workers draw may happen where they draw it.
use Rattle.std.proofs.Common.{◌≡◌, ◌≢◌, ℕ, ◌<◌, ◌≤◌, List, ◌∷◌, length, refl, sym, subst, arith}
use Rattle.std.specs.Prelude.{slice_index}
use Rattle.asio_types.specs.declared.event.Event.{Event}
use Rattle.session_script.specs.WellFormed.{IsWellFormed}
use Rattle.history_rules.specs.Legal.{MayHappen}
use Rattle.history_rules.specs.Rounds.{AllQuiet, RoundIsOpen}
use Rattle.lane_clock.specs.declared.found.Change.{Change}
use Rattle.lane_clock.specs.declared.found.Found.{Found}
use Rattle.lane_clock.specs.History.{ClockEvent, places_after, steps_under}
use Rattle.lane_clock.proofs.MomentLemmas.{Tail, tail_more}
use Rattle.lane_map.specs.LaneNumbers.{cells_of}
use Rattle.lane_logs.specs.Labels.{Labelled, shows}
use Rattle.lane_logs.specs.Logs.{AreLogs, LogsView}
use Rattle.lane_logs.specs.Names.{SessionNames}
use Rattle.lane_logs.specs.OpenerLog.{ClosedPart, ClosesPolled, OpenerPart, closed, opened, opener_labels, resting, restarted}
use Rattle.lane_logs.specs.SeatNumbers.{IsWorkerSeat, lane_count, opener_seat}
use Rattle.history_merge.proofs.AllowanceLemmas.{by_worker}
use Rattle.history_merge.proofs.ClosingLemmas.{closing_may, restart_may}
use Rattle.history_merge.proofs.DrawRoundLemmas.{drawn_round, nothing_in}
use Rattle.history_merge.proofs.HistoryLemmas.{AreLabelled, label_of}
use Rattle.history_merge.proofs.LabellingLemmas.{AreLabels}
use Rattle.history_merge.proofs.OpenedLemmas.{opened_may}
use Rattle.history_merge.proofs.OpenerLemmas.{stand_at}
use Rattle.history_merge.proofs.OpenerPartLemmas.{opener_at}
use Rattle.history_merge.proofs.PartLemmas.{IsMadeAt}
use Rattle.history_merge.proofs.PolledQuietLemmas.{polled_quiet}
use Rattle.history_merge.proofs.SoFarLemmas.{state_at}
use Rattle.history_merge.proofs.SoLemmas.{IsSo, state_so}
use Rattle.history_merge.proofs.StoodLemmas.{has_stand, labels_of_part, round_is_open}

module _ (names : SessionNames) (well : IsWellFormed names.script) (logs : LogsView) (labels : ℕ → List Labelled)
    (logged : AreLogs names logs) (are : AreLabels names logs labels) (e : ClockEvent) (es : List ClockEvent)
    (tail : Tail (e ∷ es) logged.closed.history) (all : AreLabelled labels (e ∷ es)) (shown : Event) (changes : Change)
    (found : Found) (is : label_of labels es e ≡ shows shown changes found) where
  abbrev opener : ℕ
  opener = opener_seat names.script

  -- where any other than the opener draws, a round is open
  pub others_round : e.by ≢ opener_seat names.script →
      RoundIsOpen names.script (state_at names.script names.told labels es).context
  others_round other =
      round_is_open names.script (stand_at names.script opener es) _
      (has_stand names well logs labels logged are es (tail_more es e logged.closed.history tail) all.0)
      (drawn_round names logs labels logged are e es tail all.1 other shown changes found is)

  -- so a stop from outside may come
  pub worker_may : IsWorkerSeat names.script e.by →
      MayHappen names.script names.told (state_at names.script names.told labels es) shown
  worker_may worker =
      subst (MayHappen names.script names.told (state_at names.script names.told labels es))
      (sym (by_worker names well logs labels logged are e es tail all shown changes found is worker))
      (others_round (λ same. let less = worker.before in absurd (omega (arith, less, same))))

  -- what the opener draws may come
  module _ (by : e.by ≡ opener_seat names.script) (so : (a : List ClockEvent) → Tail a es → IsSo names logs labels are a)
      (polled : (part : ClosedPart) → (opener_at names logs labels logged are e es tail all.1 by).part ≡ closed part →
      ClosesPolled names.script logs.lists (opener_at names logs labels logged are e es tail all.1 by).earlier part.load
      part.looks → AllQuiet (state_so names logs labels are es)) where
    abbrev at : IsMadeAt OpenerPart opener_labels are.opener.parts (length (steps_under opener es)) (label_of labels es e)
    at = opener_at names logs labels logged are e es tail all.1 by

    by_part : (part : OpenerPart) → at.part ≡ part → MayHappen names.script names.told (state_so names logs labels are es) shown
    by_part (resting step) here =
        absurd (nothing_in step at.before shown changes found at.after
        (labels_of_part names well logs labels logged are e es tail all by shown changes found is (resting step) here))
    by_part (opened calls made) here =
        opened_may names well logs labels logged are e es tail all by shown changes found is calls made here
    by_part (restarted drawn) here =
        restart_may names well logs labels logged are e es tail all by shown changes found is so drawn here
    by_part (closed part) here =
        closing_may names well logs labels logged are e es tail all by shown changes found is so part here (polled part here)

    pub opener_may : MayHappen names.script names.told (state_so names logs labels are es) shown
    opener_may = by_part at.part refl

  -- where no place is beyond the cells nothing else is asked for
  module _ (by : e.by ≡ opener_seat names.script) (so : (a : List ClockEvent) → Tail a es → IsSo names logs labels are a)
      (none_beyond : (lane : ℕ) → lane < lane_count names.script →
      places_after lane es ≤ slice_index (cells_of names.script) lane) where
    pub opener_event : MayHappen names.script names.told (state_so names logs labels are es) shown
    opener_event =
        opener_may by so
        (λ part here polls.
        polled_quiet names well logs labels logged are e es tail all by shown changes found is so part here polls
        none_beyond)

-- The restarts and closings of rounds are legal where the opener draws them; but that polling found nothing more to do
-- is asked for here.
use Rattle.std.proofs.Common.{◌≡◌, ◌≢◌, ℕ, ◌<◌, ◌≤◌, Bool, true, false, List, [], ◌∷◌, length, refl, sym, ap, subst, ◌∙◌, arith}
use Rattle.std.specs.Prelude.{nat_lt, not, slice_get}
use Rattle.std.proofs.lemmas.Bool.{and_parts, le-ltb, lt-ltb}
use Rattle.asio_types.specs.declared.event.Event.{Event}
use Rattle.asio_types.specs.declared.event.Event.TheVariants as event
use Rattle.session_script.specs.WellFormed.{IsWellFormed}
use Rattle.history_rules.specs.Calls.{is_open}
use Rattle.history_rules.specs.Legal.{MayHappen}
use Rattle.history_rules.specs.Rounds.{AllQuiet, MayRestart, NoCallIsOpen, NothingRuns, RoundIsOpen, outstanding_work, restarts, runs}
use Rattle.history_rules.specs.State.{State, call_at}
use Rattle.lane_clock.specs.declared.found.Change.{Change}
use Rattle.lane_clock.specs.declared.found.Found.{Found}
use Rattle.lane_clock.specs.History.{ClockEvent, steps_under}
use Rattle.lane_clock.proofs.MomentLemmas.{Tail, tail_more, tail_refl}
use Rattle.lane_logs.specs.Knowing.{joined_count}
use Rattle.lane_logs.specs.Labels.{Labelled, shows, steps_in}
use Rattle.lane_logs.specs.Logs.{AreLogs, LogsView}
use Rattle.lane_logs.specs.Names.{SessionNames}
use Rattle.lane_logs.specs.OpenerLog.{ClosedPart, Closes, ClosesPolled, IsClosedPart, OpenerPart, closed, opened, opener_labels, resting, restarted, stand_after}
use Rattle.lane_logs.specs.SeatNumbers.{lane_count, opener_seat}
use Rattle.lane_logs.specs.Stand.{Stand, is_round_open, round_at, wants_restart}
use Rattle.lane_logs.proofs.StandLemmas.{IsWaiting, waiting_stand}
use Rattle.history_merge.proofs.AtRestLemmas.{call_closed, no_call_open, nothing_runs}
use Rattle.history_merge.proofs.AtEventLemmas.{nothing_left}
use Rattle.history_merge.proofs.DrawRoundLemmas.{nothing_in}
use Rattle.history_merge.proofs.HistoryLemmas.{AreLabelled, label_of, shown_in}
use Rattle.history_merge.proofs.LabellingLemmas.{AreLabels}
use Rattle.history_merge.proofs.LookingLemmas.{closing_over, closing_quiet, load_finds}
use Rattle.history_merge.proofs.OpenerLemmas.{stand_at}
use Rattle.history_merge.proofs.OpenerPartLemmas.{opener_at}
use Rattle.history_merge.proofs.PartLemmas.{IsMadeAt}
use Rattle.history_merge.proofs.RestingLemmas.{IsResting}
use Rattle.history_merge.proofs.RoundEventLemmas.{IsNoRound}
use Rattle.history_merge.proofs.SoLemmas.{IsSo, state_so}
use Rattle.history_merge.proofs.StageLemmas.{left_at}
use Rattle.history_merge.proofs.StillReactorLemmas.{reactor_rests}
use Rattle.history_merge.proofs.StoodLemmas.{HasStand, base_is, closed_behind, closed_part, closed_stood, has_stand, labels_of_part, open_shows, restart_first, restart_part, restart_shows, restart_stood, round_is_open}
use Rattle.history_merge.proofs.StopLemmas.{Halts, halts_of}
use Rattle.history_merge.proofs.WordLemmas.{counts_of}

not_true : (b : Bool) → not b ≡ true → b ≡ false
not_true true is = absurd (cc)
not_true false is = refl

-- stops that differ from those at the last restart are more
stopped_by : (halts : Halts) (stops base : ℕ) → halts.base ≤ halts.stops → halts.stops ≡ stops → halts.base ≡ base →
    stops ≢ base → nat_lt halts.base halts.stops ≡ true
stopped_by halts stops base order found kept other =
    lt-ltb halts.base halts.stops (omega (arith, order, found, kept, other))

going_by : (halts : Halts) (stops base : ℕ) → halts.stops ≡ stops → halts.base ≡ base → stops ≡ base →
    nat_lt halts.base halts.stops ≡ false
going_by halts stops base found kept same = le-ltb halts.base halts.stops (omega (arith, found, kept, same))

module _ (names : SessionNames) (well : IsWellFormed names.script) (logs : LogsView) (labels : ℕ → List Labelled)
    (logged : AreLogs names logs) (are : AreLabels names logs labels) (e : ClockEvent) (es : List ClockEvent)
    (tail : Tail (e ∷ es) logged.closed.history) (all : AreLabelled labels (e ∷ es))
    (by : e.by ≡ opener_seat names.script) (shown : Event) (changes : Change) (found : Found)
    (is : label_of labels es e ≡ shows shown changes found)
    (so : (a : List ClockEvent) → Tail a es → IsSo names logs labels are a) where
  abbrev opener : ℕ
  opener = opener_seat names.script

  abbrev s : State
  s = state_so names logs labels are es

  abbrev stand : Stand
  stand = stand_at names.script opener es

  abbrev at : IsMadeAt OpenerPart opener_labels are.opener.parts (length (steps_under opener es)) (label_of labels es e)
  at = opener_at names logs labels logged are e es tail all.1 by

  older : Tail es logged.closed.history
  older = tail_more es e logged.closed.history tail

  now : IsSo names logs labels are es
  now = so es (tail_refl es)

  pub stood : HasStand names.script stand s.context
  stood = has_stand names well logs labels logged are es older all.0

  based : stand.base ≡ (halts_of (shown_in labels es)).base
  based = base_is names well logs labels logged are es older all.0 (λ a within. (so a within).counts)

  -- where a round is to be restarted or closed nothing runs and no call is open
  module _ (over : stand.opening ≡ 0) where
    left : (lane : ℕ) (within : lane < lane_count names.script) → left_at names logs labels are es lane within ≡ []
    left lane within = nothing_left names logs labels logged are e es tail all.1 by shown changes found is over lane within

    quiet : NothingRuns s.context
    quiet = nothing_runs names well logs labels are es now left

    back : NoCallIsOpen s.context
    back = no_call_open names well logs labels are es now left (stood.opened over)

  module _ (drawn : Found) (here : at.part ≡ restarted drawn) where
    pub restart_may : MayHappen names.script names.told s shown
    restart_may =
        let part = restart_part names well logs labels logged are e es tail all by shown changes found is drawn here in
        let was = restart_stood names well logs labels logged are e es tail all by shown changes found is drawn here in
        let first = restart_first names well logs labels logged are e es tail all by shown changes found is drawn here in
        let over : stand.opening ≡ 0 = ap (λ (s : Stand). s.opening) was ∙ part.opened in
        let wants : wants_restart names.script stand ≡ true = ap (wants_restart names.script) was ∙ part.wanted in
        let waits : IsWaiting names.script stand = waiting_stand names.script stand wants in
        let parts = and_parts (restarts (round_at names.script stand)) (not stand.restarted) wants in
        let rests : IsResting s.reactor =
        reactor_rests names logs labels logged are e es tail all by shown changes found is over
        (λ n. ap (λ labels. joined_count n (steps_in labels)) first) part.working in
        let may : MayRestart names.script s = record {
          begun = record {
            opened = stood.opened over;
            left = let same = stood.closings in let less = waits.left in omega (arith, same, less);
          };
          wanted = ap (λ n. restarts (slice_get names.script.rounds n)) stood.closings ∙ parts.0;
          once = stood.restarted ∙ waits.not_yet;
          quiet = quiet over;
          working = rests.works;
        } in
        subst (MayHappen names.script names.told s)
        (sym (restart_shows names well logs labels logged are e es tail all by shown changes found is drawn here)) may

  -- and where it is restarted no call is open
  restart_over : event.Restart ≡ shown → (part : OpenerPart) → at.part ≡ part → stand.opening ≡ 0
  restart_over restarts (resting step) here =
      absurd (nothing_in step at.before shown changes found at.after
      (labels_of_part names well logs labels logged are e es tail all by shown changes found is (resting step) here))
  restart_over restarts (opened calls made) here =
      absurd (subst IsNoRound (sym restarts)
      (open_shows names well logs labels logged are e es tail all by shown changes found is calls made here))
  restart_over restarts (restarted drawn) here =
      ap (λ (s : Stand). s.opening)
      (restart_stood names well logs labels logged are e es tail all by shown changes found is drawn here)
      ∙ (restart_part names well logs labels logged are e es tail all by shown changes found is drawn here).opened
  restart_over restarts (closed part) here =
      closing_over names well logs labels logged are e es tail all by shown changes found is part here

  pub restart_closed : event.Restart ≡ shown → (n : ℕ) → is_open (call_at s.context n) ≡ false
  restart_closed restarts n =
      let over = restart_over restarts at.part refl in
      call_closed names well logs labels are es now (left over) (stood.opened over) n

  module _ (part : ClosedPart) (here : at.part ≡ closed part) where
    closes : IsClosedPart names.script logs.lists at.earlier part
    closes = closed_part names well logs labels logged are e es tail all by shown changes found is part here

    was : stand ≡ stand_after names.script logs.lists at.earlier
    was = closed_stood names well logs labels logged are e es tail all by shown changes found is part here

    over : stand.opening ≡ 0
    over = closing_over names well logs labels logged are e es tail all by shown changes found is part here

    pub closing_round : RoundIsOpen names.script s.context
    closing_round =
        round_is_open names.script stand s.context stood (ap (is_round_open names.script) was ∙ closes.round)

    rests : IsResting s.reactor
    rests =
        reactor_rests names logs labels logged are e es tail all by shown changes found is over
        (closing_quiet names well logs labels logged are e es tail all by shown changes found is part here) closes.working

    -- what the load found is what the state has
    loaded : part.load ≡ counts_of names.script names.told labels es
    loaded =
        load_finds names well logs labels logged are e es tail all by shown changes found is part here ∙ now.counts

    stops : (halts_of (shown_in labels es)).stops ≡ part.load.stops
    stops = sym (ap (λ (f : Found). f.stops) loaded)

    base : (halts_of (shown_in labels es)).base ≡ (stand_after names.script logs.lists at.earlier).base
    base = sym based ∙ ap (λ (s : Stand). s.base) was

    work : part.load.work ≡ outstanding_work s
    work = ap (λ (f : Found). f.work) loaded

    by_event : (closing : Event) → Closes names.script logs.lists at.earlier part closing →
        (ClosesPolled names.script logs.lists at.earlier part.load part.looks → AllQuiet s) →
        MayHappen names.script names.told s closing
    by_event event.Ended ends idle = record {
      round = closing_round;
      going =
          now.halted.stopped
          ∙ going_by (halts_of (shown_in labels es)) part.load.stops _ stops base ends.going;
      idle = sym work ∙ ends.idle;
    }
    by_event event.Stopped stops_it idle = record {
      round = closing_round;
      stopped =
          now.halted.stopped
          ∙ stopped_by (halts_of (shown_in labels es)) part.load.stops _ now.halted.order stops base stops_it;
      quiet = quiet over;
      back = back over;
      told = rests.due;
      drained = rests.drained;
      working = rests.works;
    }
    by_event event.Polled polls idle = record {
      round = closing_round;
      polls =
          ap (λ n. runs (slice_get names.script.rounds n))
          (stood.closings ∙ ap (λ (s : Stand). s.closings) was) ∙ polls.polls;
      going =
          now.halted.stopped
          ∙ going_by (halts_of (shown_in labels es)) part.load.stops _ stops base polls.going;
      outstanding = let some = polls.left in omega (arith, work, some);
      idle = idle polls;
      told = rests.due;
      drained = rests.drained;
    }
    by_event other closes idle = absurd closes

    -- a closing is legal, where it is said that polling found all quiet
    pub closing_may : (ClosesPolled names.script logs.lists at.earlier part.load part.looks → AllQuiet s) →
        MayHappen names.script names.told s shown
    closing_may idle =
        subst (MayHappen names.script names.told s)
        (sym (closed_behind names well logs labels logged are e es tail all by shown changes found is part here).event)
        (by_event part.shown closes.closes idle)

-- What is recorded of ticks, of the last time point and of a failure.
use Rattle.std.proofs.Common.{◌≡◌, ◌⊎◌, ℕ, ◌+◌, ◌≤◌, Bool, true, false, ◌&&◌, List, Some, inr, length, refl, sym, ap, subst, ◌∙◌, arith, []}
use Rattle.std.specs.Prelude.{slice_get}
use Rattle.std.specs.List.{slice_index_or}
use Rattle.std.specs.Option.{unwrap_or}
use Rattle.std.proofs.lemmas.Bool.{false_from_ne_true}
use Rattle.asio_types.specs.Faults.{one_more}
use Rattle.asio_types.specs.declared.event.Event.TheVariants as event
use Rattle.asio_types.specs.declared.outside.Point.TheVariants as point
use Rattle.stream_rules.specs.World.{times_after}
use Rattle.history_rules.specs.Legal.{after_event}
use Rattle.history_rules.specs.Rounds.{runs}
use Rattle.history_rules.specs.State.{State, phase_at}
use Rattle.history_rules.specs.Time.{IsIdle, at_last, at_time, next_time}
use Rattle.reactor_turns.specs.Ahead.{one_unless}
use Rattle.execution_laws.specs.Order.{IsKept}
use Rattle.execution_laws.specs.Work.{is_requested}
use Rattle.execution_laws.proofs.AccountLemmas.{account_last, account_tick}
use Rattle.execution_laws.proofs.CountLemmas.{one_more-bound, one_more-from}
use Rattle.execution_laws.proofs.FreeLemmas.{free_turn}
use Rattle.book_context.specs.Left.{events_left}
use Rattle.book_context.specs.Recorded.{IsRecorded, recorded_half, recorded_state}
use Rattle.book_context.specs.Recording.{Recording, with_event}
use Rattle.book_context.specs.Steps.{IsRoundOpen}
use Rattle.book_context.specs.Turns.{IsSameOrder}
use Rattle.book_context.specs.TurnSteps.{HasFailed, TurnIsBegun, IsWaiting}
use Rattle.reactor_turns.proofs.ClockLemmas.{falls-tick, last-once, last-set, runs-last, runs-tick, settled-ahead, settled-clock}
use Rattle.book_context.proofs.LeftLemmas.{acts-same, left-falls}
use Rattle.book_context.proofs.NextLemmas.{all_quiet}
use Rattle.book_context.proofs.RecordedLemmas.{Changes, goes_on, round_open}
use Rattle.reactor_turns.proofs.StandingLemmas.{stands-last, stands-tick}
use Rattle.reactor_turns.proofs.SummingLemmas.{one_if}
use Rattle.reactor_turns.proofs.TakenLemmas.{last-taken, tick-taken}
use Rattle.book_context.proofs.TurnLemmas.{others_keep}
use Rattle.book_context.proofs.TurnStepLemmas.{kinds_same, may_turn, one_more-most, turned}

-- nothing is left but to wait
module _ (told : Bool) (r : Recording) (knows : IsRecorded told r) (waiting : IsWaiting told r) where
  abbrev idle_state : State
  idle_state = recorded_state told r

  is_idle : IsIdle r.script idle_state
  is_idle = record {
    turn = may_turn told r knows waiting.turn;
    runs = ap (λ closings. runs (slice_get r.script.rounds closings)) knows.closings ∙ waiting.runs;
    quiet =
        all_quiet r.script idle_state
        (subst (λ requests. IsKept r.script idle_state [] requests) waiting.none_asked
        (subst (λ ready. IsKept r.script idle_state ready r.requests) waiting.none_ready knows.kept));
    back = knows.kept.rest.back;
    pending = waiting.pending;
  }

  works : idle_state.reactor.failed ≡ false
  works = waiting.turn.working

  -- a turn that neither takes nor tells anything
  same_order : (t : State) → t.context.acts ≡ idle_state.context.acts → t.reactor.taken ≡ idle_state.reactor.taken →
      t.context.events ≡ one_more idle_state.context.events → t.context.turn ≡ Some idle_state.context.events →
      IsSameOrder idle_state t
  same_order t acts taken events turn =
      let later = one_more-from idle_state.context.events knows.kept.rest.counted in
      let most = one_more-bound idle_state.context.events in
      let since = ap (λ turn. unwrap_or turn 0) turn in
      record {
        acts = acts;
        taken = taken;
        later = omega (arith, events, later);
        counted = omega (arith, events, most);
        turn = omega (arith, since, events, later);
      }

  module _ (time : ℕ) (next : next_time r.script idle_state.reactor ≡ point.Time time) where
    abbrev ticked : State
    ticked = after_event r.script told idle_state (event.Tick time)

    tick_taken : ticked.reactor.taken ≡ idle_state.reactor.taken
    tick_taken = tick-taken r.script told idle_state.reactor time

    tick_left : events_left r.script ticked + 1 ≤ events_left r.script idle_state
    tick_left =
        let clock = runs-tick r.script told idle_state.reactor time in
        let acts =
        acts-same idle_state ticked refl (λ n. ap (λ (taken : List Bool). slice_index_or taken n false) tick_taken) in
        let falls = falls-tick r.script told idle_state.reactor time next in
        let times = ap (λ now. length (times_after now r.script.world.lines)) clock.now in
        let last = ap one_unless clock.last in
        let failed = ap one_unless clock.failed in
        left-falls r.script idle_state ticked 1 (omega (arith, acts, falls, times, last, failed))

    changes_tick : Changes r.script idle_state ticked r.ready r.requests r.stopped r.restarted r.closings
    changes_tick = record {
      kept =
          others_keep r.script idle_state ticked r.ready r.requests (same_order ticked refl tick_taken refl refl) knows.kept;
      accounted = λ still. account_tick r.script told idle_state time (knows.accounted works);
      standing = λ still n. stands-tick n r.script told idle_state.reactor time
          ∙ (knows.standing works n
          ∙ ap (λ (taken : List Bool).
          one_if (is_requested (phase_at idle_state.context n) && slice_index_or taken n false))
          (sym tick_taken));
      ahead = settled-ahead told (at_time r.script told time idle_state.reactor);
      kinds = kinds_same r.script idle_state ticked (λ n. refl) knows.kinds;
      free = free_turn r.script idle_state.context knows.free;
      opening = refl;
      calls = λ n. refl;
      stopped = knows.stopped;
      restarted = knows.restarted;
      closings = knows.closings;
      dropping = refl;
      left = tick_left;
      events = one_more-most idle_state.context.events;
      spent = λ n. refl;
    }

    pub has_ticked : TurnIsBegun told r (event.Tick time) (with_event (event.Tick time) r)
    has_ticked =
        turned told r (event.Tick time) (with_event (event.Tick time) r)
        (goes_on told r (event.Tick time) r.ready r.requests r.stopped r.restarted r.closings knows
        (record { idle = is_idle; next = next }) changes_tick) refl
        (runs-tick r.script told idle_state.reactor time).whole ((runs-tick r.script told idle_state.reactor time).failed ∙ works)

  module _ (next : next_time r.script idle_state.reactor ≡ point.Last) where
    abbrev passed : State
    passed = after_event r.script told idle_state event.Last

    last_taken : passed.reactor.taken ≡ idle_state.reactor.taken
    last_taken = last-taken told idle_state.reactor

    not_before : idle_state.reactor.last ≡ false
    not_before =
        false_from_ne_true idle_state.reactor.last (last-once r.script idle_state.reactor knows.ahead
        waiting.turn.nothing_due waiting.turn.drained waiting.pending next)

    last_left : events_left r.script passed + 1 ≤ events_left r.script idle_state
    last_left =
        let clock = runs-last told idle_state.reactor in
        let acts =
        acts-same idle_state passed refl (λ n. ap (λ (taken : List Bool). slice_index_or taken n false) last_taken) in
        let waits = clock.waits in
        let times = ap (λ now. length (times_after now r.script.world.lines)) clock.now in
        let before = ap one_unless not_before in
        let after = ap one_unless (last-set told idle_state.reactor) in
        let failed = ap one_unless clock.failed in
        left-falls r.script idle_state passed 1 (omega (arith, acts, waits, times, before, after, failed))

    changes_last : Changes r.script idle_state passed r.ready r.requests r.stopped r.restarted r.closings
    changes_last = record {
      kept =
          others_keep r.script idle_state passed r.ready r.requests (same_order passed refl last_taken refl refl) knows.kept;
      accounted = λ still. account_last r.script told idle_state (knows.accounted works);
      standing = λ still n. stands-last n told idle_state.reactor
          ∙ (knows.standing works n
          ∙ ap (λ (taken : List Bool).
          one_if (is_requested (phase_at idle_state.context n) && slice_index_or taken n false))
          (sym last_taken));
      ahead = settled-ahead told (at_last told idle_state.reactor);
      kinds = kinds_same r.script idle_state passed (λ n. refl) knows.kinds;
      free = free_turn r.script idle_state.context knows.free;
      opening = refl;
      calls = λ n. refl;
      stopped = knows.stopped;
      restarted = knows.restarted;
      closings = knows.closings;
      dropping = refl;
      left = last_left;
      events = one_more-most idle_state.context.events;
      spent = λ n. refl;
    }

    pub has_passed : TurnIsBegun told r event.Last (with_event event.Last r)
    has_passed =
        turned told r event.Last (with_event event.Last r)
        (goes_on told r event.Last r.ready r.requests r.stopped r.restarted r.closings knows
        (record { idle = is_idle; next = next }) changes_last) refl
        (settled-clock told (at_last told idle_state.reactor)).whole ((runs-last told idle_state.reactor).failed ∙ works)

none_left : (b : Bool) → 0 ≤ one_unless b
none_left b = omega arith

module _ (told : Bool) (r : Recording) (knows : IsRecorded told r) (round : IsRoundOpen r)
    (works : (recorded_half told r).failed ≡ false)
    (untouched : ((recorded_half told r).whole_turn ≡ true) ⊎ ((recorded_half told r).due ≡ [])) where
  abbrev up_to : State
  up_to = recorded_state told r

  abbrev broken : State
  broken = after_event r.script told up_to event.Fault

  fault_left : events_left r.script broken + 1 ≤ events_left r.script up_to
  fault_left =
      let acts = acts-same up_to broken refl (λ n. refl) in
      let before = ap one_unless works in
      let stop = none_left up_to.context.stopped in
      left-falls r.script up_to broken 1 (omega (arith, acts, before, stop))

  changes_fault : Changes r.script up_to broken r.ready r.requests true r.restarted r.closings
  changes_fault = record {
    kept =
        let later = one_more-from up_to.context.events knows.kept.rest.counted in
        others_keep r.script up_to broken r.ready r.requests
        (record {
          acts = refl;
          taken = refl;
          later = later;
          counted = one_more-bound up_to.context.events;
          turn = omega arith;
        }) knows.kept;
    accounted = λ still. absurd (cc);
    standing = λ still. absurd (cc);
    ahead = knows.ahead;
    kinds = kinds_same r.script up_to broken (λ n. refl) knows.kinds;
    free = record { lanes = knows.free.lanes; free = λ going. absurd (cc) };
    opening = refl;
    calls = λ n. refl;
    stopped = refl;
    restarted = knows.restarted;
    closings = knows.closings;
    dropping = refl;
    left = fault_left;
    events = one_more-most up_to.context.events;
    spent = λ n. refl;
  }

  pub has_failed : HasFailed told r
  has_failed =
      let goes =
      goes_on told r event.Fault r.ready r.requests true r.restarted r.closings knows
      (record { once = works; when = inr (record { round = round_open told r knows round; untouched = untouched }) })
      changes_fault in
      record { goes = goes; failed = ap (λ (s : State). s.reactor.failed) goes.state }

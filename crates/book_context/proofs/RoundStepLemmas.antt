-- What is recorded of rounds.
use Rattle.std.proofs.Common.{◌≡◌, ℕ, ◌+◌, ◌-◌, ◌<◌, ◌≤◌, Bool, true, false, None, length, refl, ap, subst, ◌∙◌, arith, []}
use Rattle.std.specs.Prelude.{count_by, slice_get}
use Rattle.std.specs.Option.{unwrap_or}
use Rattle.std.proofs.lemmas.List.{length-map}
use Rattle.asio_types.specs.Faults.{one_more}
use Rattle.asio_types.specs.declared.event.Event.TheVariants as event
use Rattle.history_rules.specs.Legal.{after_event}
use Rattle.history_rules.specs.Rounds.{AllQuiet, is_held, outstanding_work, restarts, runs}
use Rattle.history_rules.specs.State.{State}
use Rattle.history_rules.specs.Time.{pending_count}
use Rattle.history_rules.specs.declared.phase.Allowance.TheVariants as allowance
use Rattle.history_rules.specs.declared.phase.Progress.{Progress}
use Rattle.reactor_turns.specs.Ahead.{one_unless}
use Rattle.execution_laws.specs.Order.{IsKept}
use Rattle.execution_laws.proofs.CountLemmas.{one_more-bound, one_more-from, one_more-is}
use Rattle.execution_laws.proofs.FreeLemmas.{free_restart}
use Rattle.execution_laws.proofs.WorkLemmas.{is_work_listed}
use Rattle.book_context.specs.Left.{rounds_left}
use Rattle.book_context.specs.Recorded.{IsRecorded, recorded_half, recorded_state}
use Rattle.book_context.specs.Recording.{Recording, with_closing, with_outside_stop, with_restart}
use Rattle.book_context.specs.RoundSteps.{IsHalted, IsPolled, WantsRestart}
use Rattle.book_context.specs.Steps.{EventIsRecorded, IsRoundOpen}
use Rattle.book_context.proofs.LeftLemmas.{acts-same, left-falls, rounds_left_at}
use Rattle.book_context.proofs.NextLemmas.{all_quiet}
use Rattle.book_context.proofs.RecordedLemmas.{Changes, few_rounds, goes_on, round_open}
use Rattle.book_context.proofs.TurnStepLemmas.{kinds_same, one_more-most}
use Rattle.book_context.proofs.TurnLemmas.{others_keep}

-- the outstanding work, by what is recorded and what the reactor has to complete
pub work_known : (told : Bool) (r : Recording) → IsRecorded told r → (recorded_half told r).failed ≡ false →
    outstanding_work (recorded_state told r)
    ≡ length r.ready + length r.requests + pending_count (recorded_half told r)
    + count_by is_held (recorded_half told r).guards
work_known told r knows works =
    let listed = is_work_listed r.script (recorded_state told r) r.ready r.requests knows.kept in
    let same = (knows.accounted works).pending in
    omega (arith, listed, same)

-- where nothing is listed all is quiet
quiet_now : (told : Bool) (r : Recording) → IsRecorded told r → r.ready ≡ [] → r.requests ≡ [] →
    AllQuiet (recorded_state told r)
quiet_now told r knows ready requests =
    let s : State = recorded_state told r in
    all_quiet r.script s (subst (λ requests. IsKept r.script s [] requests) requests
    (subst (λ ready. IsKept r.script s ready r.requests) ready knows.kept))

-- a round that closes, and a restart
close_left : (rounds : ℕ) (restarted : Bool) → 1 ≤ rounds →
    rounds_left (rounds - 1) false + 1 ≤ rounds_left rounds restarted
close_left rounds true some = omega (arith, some)
close_left rounds false some = omega (arith, some)

restart_left : (rounds : ℕ) → 1 ≤ rounds → rounds_left rounds true + 2 ≤ rounds_left rounds false
restart_left rounds some = omega (arith, some)

module _ (told : Bool) (r : Recording) (knows : IsRecorded told r) where
  abbrev s : State
  s = recorded_state told r

  -- an event that leaves acts and the reactor as they are
  same_order : (t : State) → t.context.acts ≡ s.context.acts → t.reactor.taken ≡ s.reactor.taken →
      s.context.events ≤ t.context.events → t.context.events ≤ one_more s.context.events →
      unwrap_or t.context.turn 0 ≤ unwrap_or s.context.turn 0 → IsKept r.script t r.ready r.requests
  same_order t acts taken later most turn =
      let bound = one_more-bound s.context.events in
      let dated = knows.kept.orderly.dated.turn in
      others_keep r.script s t r.ready r.requests
      (record {
        acts = acts;
        taken = taken;
        later = later;
        counted = omega (arith, most, bound);
        turn = omega (arith, turn, dated, later);
      }) knows.kept

  later_now : s.context.events ≤ one_more s.context.events
  later_now = one_more-from s.context.events knows.kept.rest.counted

  left_rounds : r.closings < length r.script.rounds → 1 ≤ length r.script.rounds - s.context.closings
  left_rounds left = let same = knows.closings in omega (arith, same, left)

  closed_count : r.closings < length r.script.rounds → one_more s.context.closings ≡ r.closings + 1
  closed_count left =
      let few = few_rounds r.script knows.script in
      let same = knows.closings in
      let more = one_more-is s.context.closings (omega (arith, same, left, few)) in
      omega (arith, more, same)

  fewer_rounds : r.closings < length r.script.rounds →
      rounds_left (length r.script.rounds - one_more s.context.closings) false + 1 ≤ rounds_left_at r.script s
  fewer_rounds left =
      let some = left_rounds left in
      let less = close_left (length r.script.rounds - s.context.closings) s.context.restarted some in
      let count = closed_count left in
      let was = knows.closings in
      let one : length r.script.rounds - one_more s.context.closings ≡ length r.script.rounds - s.context.closings - 1 =
      omega (arith, count, was) in
      let same = ap (λ rounds. rounds_left rounds false) one in
      omega (arith, less, same)

  -- a round that closes and leaves the context stopped: Ended and Stopped do the same to the state
  abbrev closed : State
  closed = after_event r.script told s event.Ended

  stop_falls : (b : Bool) → one_unless true ≤ one_unless b
  stop_falls b = omega arith

  changes_close : r.closings < length r.script.rounds →
      Changes r.script s closed r.ready r.requests true false (r.closings + 1)
  changes_close left = record {
    kept = same_order closed refl refl later_now (omega arith) (omega arith);
    accounted = λ works.
        let was = knows.accounted works in
        record { streams = was.streams; marks = was.marks; asked = was.asked; pending = was.pending };
    standing = λ works. knows.standing works;
    ahead = knows.ahead;
    kinds = kinds_same r.script s closed (λ n. refl) knows.kinds;
    free =
        record {
          lanes = length-map s.context.allowances.strands (λ _. allowance.Nothing) ∙ knows.free.lanes;
          free = λ going. absurd (cc);
        };
    opening = refl;
    calls = λ n. refl;
    stopped = refl;
    restarted = refl;
    closings = closed_count left;
    dropping = refl;
    left =
        let acts = acts-same s closed refl (λ n. refl) in
        let rounds = fewer_rounds left in
        let stop = stop_falls s.context.stopped in
        left-falls r.script s closed 1 (omega (arith, acts, rounds, stop));
    events = one_more-most s.context.events;
    spent = λ n. refl;
  }

  -- the context ran out of work
  pub has_ended : IsRoundOpen r → r.stopped ≡ false → outstanding_work s ≡ 0 →
      EventIsRecorded told r event.Ended (with_closing event.Ended true r)
  has_ended round going idle =
      goes_on told r event.Ended r.ready r.requests true false (r.closings + 1) knows
      (record { round = round_open told r knows round; going = knows.stopped ∙ going; idle = idle }) (changes_close round.left)

  -- it was stopped
  pub has_stopped : IsHalted told r → EventIsRecorded told r event.Stopped (with_closing event.Stopped true r)
  has_stopped halted =
      goes_on told r event.Stopped r.ready r.requests true false (r.closings + 1) knows
      (record {
        round = round_open told r knows halted.round;
        stopped = knows.stopped ∙ halted.halted;
        quiet = knows.kept.rest.quiet;
        back = knows.kept.rest.back;
        told = halted.nothing_due;
        drained = halted.drained;
        working = halted.working;
      }) (changes_close halted.round.left)

  abbrev polled : State
  polled = after_event r.script told s event.Polled

  -- polling is done
  pub has_polled : IsPolled told r → EventIsRecorded told r event.Polled (with_closing event.Polled false r)
  has_polled done =
      goes_on told r event.Polled r.ready r.requests false false (r.closings + 1) knows
      (record {
        round = round_open told r knows done.turn.round;
        polls = ap (λ closings. runs (slice_get r.script.rounds closings)) knows.closings ∙ done.polls;
        going = knows.stopped ∙ done.turn.going;
        outstanding = done.outstanding;
        idle = quiet_now told r knows done.none_ready done.none_asked;
        told = done.turn.nothing_due;
        drained = done.turn.drained;
      })
      (record {
        kept = same_order polled refl refl later_now (omega arith) (omega arith);
        accounted = λ works.
            let was = knows.accounted works in
            record { streams = was.streams; marks = was.marks; asked = was.asked; pending = was.pending };
        standing = λ works. knows.standing works;
        ahead = knows.ahead;
        kinds = kinds_same r.script s polled (λ n. refl) knows.kinds;
        free = record { lanes = knows.free.lanes; free = knows.free.free };
        opening = refl;
        calls = λ n. refl;
        stopped = knows.stopped ∙ done.turn.going;
        restarted = refl;
        closings = closed_count done.turn.round.left;
        dropping = refl;
        left =
            let acts = acts-same s polled refl (λ n. refl) in
            let rounds = fewer_rounds done.turn.round.left in
            left-falls r.script s polled 1 (omega (arith, acts, rounds));
        events = one_more-most s.context.events;
        spent = λ n. refl;
      })

  abbrev again : State
  again = after_event r.script told s event.Restart

  stop_most : (b : Bool) → one_unless false ≤ one_unless b + 1
  stop_most b = omega arith

  -- a restart
  pub has_restarted : WantsRestart told r → EventIsRecorded told r event.Restart (with_restart r)
  has_restarted wants =
      goes_on told r event.Restart r.ready r.requests false true r.closings knows
      (record {
        begun =
            record {
              opened = ap (λ (progress : Progress). progress.back) knows.opened;
              left = let same = knows.closings in let less = wants.left in omega (arith, same, less);
            };
        wanted = ap (λ closings. restarts (slice_get r.script.rounds closings)) knows.closings ∙ wants.wanted;
        once = knows.restarted ∙ wants.once;
        quiet = knows.kept.rest.quiet;
        working = wants.working;
      })
      (record {
        kept = same_order again refl refl later_now (omega arith) (omega arith);
        accounted = λ works.
            let was = knows.accounted works in
            record { streams = was.streams; marks = was.marks; asked = was.asked; pending = was.pending };
        standing = λ works. knows.standing works;
        ahead = knows.ahead;
        kinds = kinds_same r.script s again (λ n. refl) knows.kinds;
        free = free_restart r.script s.context knows.free.lanes;
        opening = refl;
        calls = λ n. refl;
        stopped = refl;
        restarted = refl;
        closings = knows.closings;
        dropping = refl;
        left =
            let acts = acts-same s again refl (λ n. refl) in
            let less = restart_left (length r.script.rounds - s.context.closings) (left_rounds wants.left) in
            let was = ap (rounds_left (length r.script.rounds - s.context.closings)) (knows.restarted ∙ wants.once) in
            let stop = stop_most s.context.stopped in
            left-falls r.script s again 1 (omega (arith, acts, less, was, stop));
        events = one_more-most s.context.events;
        spent = λ n. refl;
      })

  abbrev outside : State
  outside = after_event r.script told s (event.Stop None)

  -- somebody outside stops a context that isn't stopped
  pub has_outside : IsRoundOpen r → r.stopped ≡ false → EventIsRecorded told r (event.Stop None) (with_outside_stop r)
  has_outside round going =
      goes_on told r (event.Stop None) r.ready r.requests true r.restarted r.closings knows (round_open told r knows round)
      (record {
        kept = same_order outside refl refl (omega arith) later_now (omega arith);
        accounted = λ works.
            let was = knows.accounted works in
            record { streams = was.streams; marks = was.marks; asked = was.asked; pending = was.pending };
        standing = λ works. knows.standing works;
        ahead = knows.ahead;
        kinds = kinds_same r.script s outside (λ n. refl) knows.kinds;
        free = record { lanes = knows.free.lanes; free = λ going. absurd (cc) };
        opening = refl;
        calls = λ n. refl;
        stopped = refl;
        restarted = knows.restarted;
        closings = knows.closings;
        dropping = refl;
        left =
            let acts = acts-same s outside refl (λ n. refl) in
            let before = ap one_unless (knows.stopped ∙ going) in
            left-falls r.script s outside 1 (omega (arith, acts, before));
        events = omega arith;
        spent = λ n. refl;
      })

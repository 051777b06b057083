-- A handler that executes waits for a timer: what is kept shows the state behind its call.
use Rattle.std.proofs.Common.{arith, ap, subst, sym, ◌∙◌}
use Rattle.std.specs.Prelude.{◌≡◌, ◌<◌, ℕ, ◌+◌, ◌-◌, true, List, [], ◌∷◌, ◌++◌, Some, None, length}
use Rattle.asio_types.specs.declared.code.Code.TheVariants as code
use Rattle.io_rules.specs.declared.event.Event.{Event}
use Rattle.io_rules.specs.declared.event.Event.TheVariants as event
use Rattle.io_rules.specs.declared.limits.Limits.{Limits}
use Rattle.io_rules.specs.declared.name.Lane.{Lane}
use Rattle.io_rules.specs.declared.name.Name.{Name}
use Rattle.io_rules.specs.declared.operation.Operation.TheVariants as operation
use Rattle.io_rules.specs.declared.request.Gone.TheVariants as gone
use Rattle.io_rules.specs.declared.request.Marks.{Marks}
use Rattle.io_rules.specs.Legal.{IsLegal, after, state_of}
use Rattle.io_rules.specs.Names.{Names, is_alive}
use Rattle.io_rules.specs.Room.{place_given_by}
use Rattle.io_rules.specs.State.{ContextState}
use Rattle.io_rules.specs.Strands.{Later, called_on, on_lane}
use Rattle.io_strands.specs.declared.ready.ReadyOp.{ReadyOp}
use Rattle.io_strands.specs.Cell.{Cell}
use Rattle.io_jobs.specs.Listed.{JobList}
use Rattle.io_timers.specs.Kept.{Each}
use Rattle.io_timers.specs.Pending.{Timers, number_of, with_wait}
use Rattle.io_scheduler.specs.declared.counts.Counts.{Counts}
use Rattle.io_scheduler.specs.declared.waiting.Waiting.{Waiting}
use Rattle.io_scheduler.specs.Accepted.{MayBeTiedTo, later_cells, waiting_on}
use Rattle.io_scheduler.specs.Called.{gone_for}
use Rattle.io_scheduler.specs.Posted.{counts_called}
use Rattle.io_scheduler.specs.Running.{Execution, MayGive}
use Rattle.io_scheduler.specs.Shown.{Shows}
use Rattle.io_scheduler.specs.Waits.{ShowsWaits}
use Rattle.io_scheduler.proofs.AcceptedLemmas.{may_be_tied, room_for, shows_accepted, timer_within, wait_op, waits_accepted}
use Rattle.io_scheduler.proofs.CalledLemmas.{all_there}
use Rattle.io_scheduler.proofs.GivenLemmas.{counts_given, given_space, given_state, shows_given}
use Rattle.io_scheduler.proofs.SpaceLemmas.{not_gone}
use Rattle.io_scheduler.proofs.StayedLemmas.{stays_given, waits_stay}
use Rattle.io_scheduler.proofs.WaitsLemmas.{below_next}

-- the state behind it, with so much room
abbrev awaited : ℕ → ℕ → Lane → Name → Marks → ContextState → ℕ → ContextState
awaited n by on timer marks s room = record s {
  next = s.next + 1;
  promised = s.promised - 1;
  room = room;
  ops = place_given_by (Some by) s.ops ++ wait_op n on timer marks ∷ [];
  settled = s.settled ++ [] ++ [];
  waits = s.waits ++ record { op = n; timer = timer } ∷ [];
  strands = on_lane on (called_on Later n) s.strands;
}

-- the counts, with so much room
abbrev counts_with : Counts → ℕ → Counts
counts_with c room = record c { next = c.next + 1; promised = c.promised - 1; room = room }

taken_back : (room : ℕ) → room + 1 - 1 ≡ room
taken_back room = omega arith

module _ {H S : Type 0} (marks : H → Marks) (limits : Limits) (past : List Event) (counts : Counts) (names : Names)
    (cells : List (Cell H S)) (jobs : JobList (ReadyOp H)) (timers : Timers (Waiting H)) (runs : Execution) (on : Lane)
    (timer : Name) (handler : H) (legal : IsLegal limits past) (gives : MayGive (state_of limits past) runs)
    (shows : Shows marks limits counts names cells jobs (state_of limits past))
    (waits : ShowsWaits marks limits timers (state_of limits past))
    (there : gone.Nothing ≡ gone_for (state_of limits past).names on (operation.Wait timer)) where
  timer_alive : is_alive (state_of limits past).names.timers timer ≡ true
  timer_alive =
      not_gone (is_alive (state_of limits past).names.timers timer)
      (all_there (state_of limits past).names on (operation.Wait timer) there).timer

  next_is : counts.next ≡ (state_of limits past).next
  next_is = ap (λ (c : Counts). c.next) shows.counts_are

  pub awaited_tied : counts.next < 18446744073709551615 → MayBeTiedTo on cells
  awaited_tied below =
      may_be_tied marks limits counts names cells jobs (state_of limits past) timer handler
      (record { number = counts.next; code = code.Ok; size = 0; buffer = None; made = None; handler = handler }) shows on
      (all_there (state_of limits past).names on (operation.Wait timer) there).lane
      (let next = next_is in omega (arith, below, next))

  pub awaited_within : timer.place < length timers.timers
  awaited_within = timer_within marks limits timers (state_of limits past) waits timer timer_alive

  pending_given : ShowsWaits marks limits timers (given_state runs.op (state_of limits past))
  pending_given =
      waits_stay marks limits timers (state_of limits past) (given_state runs.op (state_of limits past)) waits
      (stays_given (state_of limits past) runs.op)

  pub awaited_room : 0 < timers.room
  awaited_room =
      let space = given_space limits past runs.op gives.it.op gives.own gives.grant runs.spares legal shows.going
      gives.it.is gives.it.runs gives.some in
      room_for marks limits timers (given_state runs.op (state_of limits past)) pending_given space.places space.room

  pub awaited_last : Each (λ wait. number_of wait < counts.next) timers.waits
  awaited_last =
      subst (λ n. Each (λ wait. number_of wait < n) timers.waits) (sym next_is)
      (below_next marks (state_of limits past).next (state_of limits past).ops timers.waits shows.below waits.each)

  pub awaited_shown : (op : ReadyOp H) → op.number ≡ counts.next →
      Shows marks limits (counts_called counts) names (later_cells on op cells) jobs
      (after (event.Called counts.next (Some runs.op) (waiting_on on timer (marks handler)) gone.Nothing) (state_of limits past))
  awaited_shown op number =
      let s = state_of limits past in
      let given = marks handler in
      subst
      (λ n. Shows marks limits (counts_called counts) names (later_cells on op cells) jobs
      (awaited n runs.op on timer given s s.room)) (sym next_is)
      (subst
      (λ room. Shows marks limits (counts_called counts) names (later_cells on op cells) jobs
      (awaited s.next runs.op on timer given s room)) (taken_back s.room)
      (subst
      (λ room. Shows marks limits (counts_with counts room) names (later_cells on op cells) jobs
      (awaited s.next runs.op on timer given s (s.room + 1 - 1))) (taken_back counts.room)
      (shows_accepted marks limits (counts_given counts) names cells jobs (given_state runs.op s) timer handler op
      (shows_given marks limits counts names cells jobs s runs.op shows) on
      (all_there s.names on (operation.Wait timer) there).lane (number ∙ next_is))))

  pub awaited_pending : (place : ℕ) →
      ShowsWaits marks limits
      (with_wait (record {
        place = place;
        item = record {
          op = counts.next;
          timer = timer;
          item = record { lane = on; handler = handler };
        };
      }) timers)
      (after (event.Called counts.next (Some runs.op) (waiting_on on timer (marks handler)) gone.Nothing) (state_of limits past))
  awaited_pending place =
      let s = state_of limits past in
      let given = marks handler in
      subst
      (λ n. ShowsWaits marks limits
      (with_wait (record {
        place = place;
        item = record {
          op = n;
          timer = timer;
          item = record { lane = on; handler = handler };
        };
      }) timers) (awaited n runs.op on timer given s s.room))
      (sym next_is)
      (subst
      (λ room. ShowsWaits marks limits
      (with_wait (record {
        place = place;
        item = record {
          op = s.next;
          timer = timer;
          item = record { lane = on; handler = handler };
        };
      }) timers) (awaited s.next runs.op on timer given s room)) (taken_back s.room)
      (waits_accepted marks limits timers (given_state runs.op s) pending_given on timer handler place
      (shows_given marks limits counts names cells jobs s runs.op shows).below awaited_room))

-- A wait is accepted: its call may come, and what is kept shows the state behind it.
use Rattle.std.proofs.Common.{arith, ap, refl, subst, sym, ◌∙◌}
use Rattle.std.proofs.lemmas.Bool.{ltb-true, true≢false}
use Rattle.std.proofs.lemmas.List.{get_or-set_other, get_or-set_same, length_push, map-set}
use Rattle.std.proofs.Math.Seq.{map-set_same}
use Rattle.std.specs.Prelude.{◌≡◌, ◌<◌, ℕ, ◌+◌, ◌-◌, ◌==◌, true, false, List, [], ◌∷◌, ◌++◌, None, length, map, nat_lt, not}
use Rattle.std.specs.List.{slice_set}
use Rattle.asio_types.specs.declared.code.Code.TheVariants as code
use Rattle.io_rules.specs.declared.event.Event.{Event}
use Rattle.io_rules.specs.declared.event.Event.TheVariants as event
use Rattle.io_rules.specs.declared.limits.Limits.{Limits}
use Rattle.io_rules.specs.declared.name.Lane.{Lane}
use Rattle.io_rules.specs.declared.name.Lane.TheVariants as lane
use Rattle.io_rules.specs.declared.name.Name.{Name}
use Rattle.io_rules.specs.declared.op.Op.{Op}
use Rattle.io_rules.specs.declared.op.Phase.TheVariants as phase
use Rattle.io_rules.specs.declared.op.Wait.{Wait}
use Rattle.io_rules.specs.declared.operation.Operation.{Operation}
use Rattle.io_rules.specs.declared.operation.Operation.TheVariants as operation
use Rattle.io_rules.specs.declared.request.Gone.TheVariants as gone
use Rattle.io_rules.specs.declared.request.Marks.{Marks}
use Rattle.io_rules.specs.Calls.{gone_by, is_lane_gone}
use Rattle.io_rules.specs.Legal.{IsLegal, MayHappen, after, state_of}
use Rattle.io_rules.specs.Names.{Names, is_alive, is_current, is_living, place_at}
use Rattle.io_rules.specs.Room.{numbers_left, one_if, places_in}
use Rattle.io_rules.specs.State.{ContextState, StreamState, strand_at}
use Rattle.io_rules.specs.Strands.{Later, called_on, on_lane}
use Rattle.io_rules.proofs.OnceLemmas.{total-less}
use Rattle.io_rules.proofs.RoomLemmas.{places_add_up}
use Rattle.io_rules.proofs.StageLemmas.{staged}
use Rattle.io_rules.proofs.StrandLemmas.{both, by_test}
use Rattle.io_rules.proofs.TotalLemmas.{apart, equal, sum_by-total, total, total-push}
use Rattle.io_history.proofs.AtLemmas.{at-push}
use Rattle.io_strands.specs.declared.ready.ReadyOp.{ReadyOp}
use Rattle.io_strands.specs.Cell.{Cell, called, is_there, may_begin, vacant}
use Rattle.io_strands.specs.Numbered.{numbered}
use Rattle.io_strands.proofs.StepLemmas.{steps_alike}
use Rattle.io_jobs.specs.Listed.{JobList}
use Rattle.io_timers.specs.declared.pending.PendingWait.{PendingWait}
use Rattle.io_timers.specs.Kept.{Each}
use Rattle.io_timers.specs.Pending.{Entry, Timers, number_of, wait_of, with_wait}
use Rattle.io_timers.proofs.OrderLemmas.{rises-push}
use Rattle.io_scheduler.specs.declared.counts.Counts.{Counts}
use Rattle.io_scheduler.specs.declared.waiting.Waiting.{Waiting}
use Rattle.io_scheduler.specs.Accepted.{MayBeTiedTo, later_cells, may_wait, waiting_on}
use Rattle.io_scheduler.specs.Counted.{may_post}
use Rattle.io_scheduler.specs.Posted.{counts_posted}
use Rattle.io_scheduler.specs.Ready.{own_ops}
use Rattle.io_scheduler.specs.Shown.{AreBelow, Shows, ShowsCell, cell_at, lane_of_place, room_of, waits_own_on}
use Rattle.io_scheduler.specs.Waits.{ArePending, IsWaitingAs, ShowsWaits, is_incomplete}
use Rattle.io_scheduler.proofs.IdleLemmas.{idles, idles_place, incomplete_total}
use Rattle.io_scheduler.proofs.ListedLemmas.{cell_is}
use Rattle.io_scheduler.proofs.PostedLemmas.{keeps_posted, others_ready, own_count}
use Rattle.io_scheduler.proofs.ReadyLemmas.{at_new, below-push, ready-kept}
use Rattle.io_scheduler.proofs.SpaceLemmas.{living_used, not_gone, there_if, there_is, three, within_cells, within_places}
use Rattle.io_scheduler.proofs.SpareLemmas.{spares_push}
use Rattle.io_scheduler.proofs.WaitsLemmas.{below_next}

-- an operation that waits for the outside
abbrev pub pending_op : ℕ → Lane → Operation → Marks → Op
pending_op n on kind marks = record {
  number = n;
  lane = on;
  binding = None;
  kind = kind;
  marks = marks;
  phase = phase.Pending 0 false;
}

abbrev pub wait_op : ℕ → Lane → Name → Marks → Op
wait_op n on timer marks = pending_op n on (operation.Wait timer) marks

-- the state behind the call of one, with what is settled then, what waits, and the streams
abbrev pub accepted_with : ℕ → Lane → Operation → Marks → List ℕ → List Wait → List StreamState → ContextState → ContextState
accepted_with n on kind marks settled waits streams s = record s {
  next = s.next + 1;
  room = s.room - 1;
  ops = s.ops ++ pending_op n on kind marks ∷ [];
  settled = settled;
  waits = waits;
  strands = on_lane on (called_on Later n) s.strands;
  streams = streams;
}

-- the state behind its call
abbrev pub accepted_state : ℕ → Lane → Name → Marks → ContextState → ContextState
accepted_state n on timer marks s = record s {
  next = s.next + 1;
  room = s.room - 1;
  ops = s.ops ++ wait_op n on timer marks ∷ [];
  settled = s.settled ++ [] ++ [];
  waits = s.waits ++ record { op = n; timer = timer } ∷ [];
  strands = on_lane on (called_on Later n) s.strands;
}

pub after_accepted : (n : ℕ) (on : Lane) (timer : Name) (marks : Marks) (s : ContextState) →
    after (event.Called n None (waiting_on on timer marks) gone.Nothing) s ≡ accepted_state n on timer marks s
after_accepted n on timer marks s = refl

pub record MayWait (s : ContextState) (on : Lane) (timer : Name) : Type 0 where
  pub room : 0 < s.room
  pub numbers : 0 < numbers_left s
  pub there : is_lane_gone s.names on ≡ false
  pub timer_there : is_alive s.names.timers timer ≡ true

pub may_parts : (s : ContextState) (on : Lane) (timer : Name) → may_wait s on timer ≡ true → MayWait s on timer
may_parts s on timer may =
    let halves = both (may_post s on) (is_alive s.names.timers timer) may in
    let parts = three (nat_lt 0 s.room) (nat_lt 0 (numbers_left s)) (not (is_lane_gone s.names on)) halves.one in
    record {
      room = ltb-true 0 s.room parts.one;
      numbers = ltb-true 0 (numbers_left s) parts.two;
      there = there_if (is_lane_gone s.names on) parts.three;
      timer_there = halves.other;
    }

pub may_be_accepted : (s : ContextState) (n : ℕ) (on : Lane) (timer : Name) (marks : Marks) → s.finishing ≡ false →
    n ≡ s.next → MayWait s on timer →
    MayHappen s (event.Called n None (waiting_on on timer marks) gone.Nothing)
may_be_accepted s n on timer marks going is may = record {
  going = going;
  number = is;
  names = sym
      (ap (λ b. gone_by b false (not (is_alive s.names.timers timer)) false) may.there
      ∙ ap (λ b. gone_by false false (not b) false) may.timer_there);
  allowed = record { room = may.room; numbers = may.numbers; there = refl };
  within = tt;
}

waits_none : (on : Lane) → waits_own_on on false ≡ 0
waits_none lane.Own = refl
waits_none (lane.Strand name) = refl

module _ {H S : Type 0} (marks : H → Marks) (limits : Limits) (counts : Counts) (names : Names) (cells : List (Cell H S))
    (jobs : JobList (ReadyOp H)) (s : ContextState) (kind : Operation) (settled : List ℕ) (waits : List Wait)
    (streams : List StreamState) (none : settled ≡ []) (handler : H) (op : ReadyOp H)
    (shows : Shows marks limits counts names cells jobs s) where
  accepted_own : Shows marks limits (counts_posted counts) names cells jobs
      (accepted_with s.next lane.Own kind (marks handler) settled waits streams s)
  accepted_own =
      let new = pending_op s.next lane.Own kind (marks handler) in
      let count = own_count s.ops new in let all = shows.own_all in
      record {
        limits_are = shows.limits_are;
        counts_are = ap counts_posted shows.counts_are;
        names_are = shows.names_are;
        below = below-push s.next s.ops new shows.below refl;
        spares = spares_push s.names.strands s.ops new shows.spares tt;
        strands = shows.strands;
        there = shows.there;
        rooms = shows.rooms;
        each = λ k. others_ready marks s.ops new s.next (lane_of_place s.names.strands k) (cell_at cells k) (shows.each k);
        listed = shows.listed;
        own = ready-kept marks s.ops (s.ops ++ new ∷ []) lane.Own (own_ops jobs.ring) (keeps_posted s.ops new) shows.own;
        own_all = omega (arith, count, all);
        own_room = shows.own_room;
        settled = none;
        going = shows.going;
      }

  here_later : (on : Lane) (new : Op) (c : Cell H S) → is_there c ≡ true → ShowsCell marks s.ops s.next on c →
      ShowsCell marks (s.ops ++ new ∷ []) (s.next + 1) on (called Later op c)
  here_later on new c there it =
      let le = it.tied in record {
        ready = ready-kept marks s.ops (s.ops ++ new ∷ []) on c.queue (keeps_posted s.ops new) it.ready;
        tied = omega (arith, le);
        idle = λ isnt. absurd (true≢false (sym there ∙ isnt));
      }

  accepted_strand : (name : Name) → is_current s.names.strands name ≡ true → name.place < length cells →
      is_there (cell_at cells name.place) ≡ true → op.number ≡ s.next →
      Shows marks limits (counts_posted counts) names (later_cells (lane.Strand name) op cells) jobs
      (accepted_with s.next (lane.Strand name) kind (marks handler) settled waits streams s)
  accepted_strand name current within is_here number =
      let n = s.next in
      let new = pending_op n (lane.Strand name) kind (marks handler) in
      let p = name.place in
      let old = cell_at cells p in
      let cell = called Later op old in
      let count = own_count s.ops new in let all = shows.own_all in
      record {
        limits_are = shows.limits_are;
        counts_are = ap counts_posted shows.counts_are;
        names_are = shows.names_are;
        below = below-push n s.ops new shows.below refl;
        spares = spares_push s.names.strands s.ops new shows.spares tt;
        strands =
            map-set numbered cells p cell
            ∙ ap (λ c. slice_set (map numbered cells) p c)
            (steps_alike.called Later op old ∙ ap (called_on Later op.number) (cell_is cells s.strands p shows.strands))
            ∙ ap (λ xs. slice_set xs p (called_on Later op.number (strand_at s.strands name))) shows.strands;
        there = map-set_same is_there cells p cell (vacant 0) refl ∙ shows.there;
        rooms = map-set_same room_of cells p cell (vacant 0) refl ∙ shows.rooms;
        each = λ k.
            by_test (p == k)
            (λ here.
            subst
            (λ j. ShowsCell marks (s.ops ++ new ∷ []) (n + 1) (lane_of_place s.names.strands j)
            (cell_at (slice_set cells p cell) j))
            (equal p k here)
            (subst (λ c. ShowsCell marks (s.ops ++ new ∷ []) (n + 1) (lane_of_place s.names.strands p) c)
            (sym (get_or-set_same cells p cell (vacant 0) within))
            (here_later (lane_of_place s.names.strands p) new old is_here (shows.each p))))
            (λ other.
            subst (λ c. ShowsCell marks (s.ops ++ new ∷ []) (n + 1) (lane_of_place s.names.strands k) c)
            (sym (get_or-set_other cells p k cell (vacant 0) (apart p k other)))
            (others_ready marks s.ops new n (lane_of_place s.names.strands k) (cell_at cells k) (shows.each k)));
        listed = shows.listed ∙ sym (map-set_same may_begin cells p cell (vacant 0) refl);
        own = ready-kept marks s.ops (s.ops ++ new ∷ []) lane.Own (own_ops jobs.ring) (keeps_posted s.ops new) shows.own;
        own_all = omega (arith, count, all);
        own_room = shows.own_room;
        settled = none;
        going = shows.going;
      }

  -- what is kept behind it
  pub shows_pending : (on : Lane) → is_lane_gone s.names on ≡ false → op.number ≡ s.next →
      Shows marks limits (counts_posted counts) names (later_cells on op cells) jobs
      (accepted_with s.next on kind (marks handler) settled waits streams s)
  shows_pending lane.Own there number = accepted_own
  shows_pending (lane.Strand name) there number =
      let alive : is_alive s.names.strands name ≡ true = not_gone (is_alive s.names.strands name) there in
      accepted_strand name
      (both (is_current s.names.strands name) (is_living (place_at s.names.strands name.place).life) alive).one
      (within_cells cells s.names.strands name shows.there alive)
      (there_is cells s.names.strands name.place shows.there
      ∙ living_used (place_at s.names.strands name.place).life
      (both (is_current s.names.strands name) (is_living (place_at s.names.strands name.place).life) alive).other) number

module _ {H S : Type 0} (marks : H → Marks) (limits : Limits) (counts : Counts) (names : Names) (cells : List (Cell H S))
    (jobs : JobList (ReadyOp H)) (s : ContextState) (timer : Name) (handler : H) (op : ReadyOp H)
    (shows : Shows marks limits counts names cells jobs s) where
  pub shows_accepted : (on : Lane) → is_lane_gone s.names on ≡ false → op.number ≡ s.next →
      Shows marks limits (counts_posted counts) names (later_cells on op cells) jobs
      (accepted_state s.next on timer (marks handler) s)
  shows_accepted on there number =
      shows_pending marks limits counts names cells jobs s (operation.Wait timer) (s.settled ++ [] ++ [])
      (s.waits ++ record { op = s.next; timer = timer } ∷ []) s.streams (ap (λ xs. xs ++ [] ++ []) shows.settled) handler op
      shows on there number

  -- it may be tied
  pub may_be_tied : (on : Lane) → is_lane_gone s.names on ≡ false → s.next < 18446744073709551615 → MayBeTiedTo on cells
  may_be_tied lane.Own there numbers = tt
  may_be_tied (lane.Strand name) there numbers =
      let alive : is_alive s.names.strands name ≡ true = not_gone (is_alive s.names.strands name) there in
      let le = (shows.each name.place).tied in
      record {
        within = within_cells cells s.names.strands name shows.there alive;
        tied = omega (arith, le, numbers);
      }

-- one more is pending behind the others
pending_push : {H : Type 0} (marks : H → Marks) (ops : List Op) (it : Op)
    (waits : List (Entry (PendingWait (Waiting H)))) (wait : Entry (PendingWait (Waiting H))) →
    ArePending marks ops waits → IsWaitingAs marks (ops ++ it ∷ []) wait.item →
    ArePending marks (ops ++ it ∷ []) (waits ++ wait ∷ [])
pending_push marks ops it [] wait all is = (is, tt)
pending_push marks ops it (x ∷ waits) wait all is =
    let old = all.0 in (
      record {
        op = old.op;
        is = at-push x.item.op ops it old.op old.is;
        lane = old.lane;
        binding = old.binding;
        kind = old.kind;
        given = old.given;
        phase = old.phase;
      },
      pending_push marks ops it waits wait all.1 is,
    )

map-push : {H : Type 0} (waits : List (Entry (PendingWait (Waiting H)))) (wait : Entry (PendingWait (Waiting H))) →
    map wait_of (waits ++ wait ∷ []) ≡ map wait_of waits ++ wait_of wait ∷ []
map-push [] wait = refl
map-push (x ∷ waits) wait = ap (λ ws. wait_of x ∷ ws) (map-push waits wait)

module _ {H : Type 0} (marks : H → Marks) (limits : Limits) (timers : Timers (Waiting H)) (s : ContextState)
    (shows : ShowsWaits marks limits timers s) where
  -- a wait may be accepted
  pub room_for : s.room + total (λ (op : Op). places_in op.phase) s.ops ≡ limits.operations → 0 < s.room →
      0 < timers.room
  room_for places room =
      let less = total-less (staged idles) (λ op. places_in op.phase) idles_place s.ops in
      let sum = incomplete_total s.ops in
      let all = shows.all in let most = shows.room in
      omega (arith, less, sum, all, most, places, room)

  pub timer_within : (timer : Name) → is_alive s.names.timers timer ≡ true → timer.place < length timers.timers
  timer_within timer alive =
      let lt = within_places s.names.timers timer
      (both (is_current s.names.timers timer) (is_living (place_at s.names.timers timer.place).life) alive).other in
      let many = shows.places in
      let same = ap length shows.timers_are in
      omega (arith, lt, many, same)

  -- what is pending behind it
  pub waits_accepted : (on : Lane) (timer : Name) (handler : H) (place : ℕ) → AreBelow s.next s.ops →
      0 < timers.room →
      ShowsWaits marks limits
      (with_wait (record {
        place = place;
        item = record {
          op = s.next;
          timer = timer;
          item = record { lane = on; handler = handler };
        };
      }) timers)
      (accepted_state s.next on timer (marks handler) s)
  waits_accepted on timer handler place below some =
      let it = wait_op s.next on timer (marks handler) in
      let wait : Entry (PendingWait (Waiting H)) =
      record { place = place; item = record { op = s.next; timer = timer; item = record { lane = on; handler = handler } } } in
      let longer = length_push timers.waits wait in
      let f : Op → ℕ = λ op. one_if (is_incomplete op.phase) in
      let old_sum = sum_by-total f s.ops in
      let new_sum = sum_by-total f (s.ops ++ it ∷ []) in
      let push = total-push f s.ops it in
      let all = shows.all in let room = shows.room in
      record {
        timers_are = shows.timers_are;
        places = shows.places;
        waits_are = map-push timers.waits wait ∙ ap (λ ws. ws ++ wait_of wait ∷ []) shows.waits_are;
        rises = rises-push timers.waits wait shows.rises (below_next marks s.next s.ops timers.waits below shows.each);
        each = pending_push marks s.ops it timers.waits wait shows.each
            (record {
              op = it;
              is = at_new s.ops it below;
              lane = refl;
              binding = refl;
              kind = refl;
              given = refl;
              phase = refl;
            });
        all = omega (arith, longer, old_sum, new_sum, push, all);
        room = omega (arith, longer, room, some);
      }

-- all that a call needs and leaves
module _ {H S : Type 0} (marks : H → Marks) (limits : Limits) (past : List Event) (counts : Counts) (names : Names)
    (cells : List (Cell H S)) (jobs : JobList (ReadyOp H)) (timers : Timers (Waiting H)) (on : Lane) (timer : Name)
    (handler : H) (legal : IsLegal limits past) (shows : Shows marks limits counts names cells jobs (state_of limits past))
    (waits : ShowsWaits marks limits timers (state_of limits past)) (may : MayWait (state_of limits past) on timer) where
  next_is : counts.next ≡ (state_of limits past).next
  next_is = ap (λ (c : Counts). c.next) shows.counts_are

  pub wait_tied : MayBeTiedTo on cells
  wait_tied =
      may_be_tied marks limits counts names cells jobs (state_of limits past) timer handler
      (record { number = counts.next; code = code.Ok; size = 0; buffer = None; made = None; handler = handler }) shows on may.there
      (let numbers = may.numbers in omega (arith, numbers))

  pub wait_within : timer.place < length timers.timers
  wait_within = timer_within marks limits timers (state_of limits past) waits timer may.timer_there

  pub wait_some : 0 < timers.room
  wait_some =
      let s = state_of limits past in
      let sum = sum_by-total (λ (op : Op). places_in op.phase) s.ops in
      let places = places_add_up limits past legal in
      room_for marks limits timers s waits (omega (arith, sum, places)) may.room

  pub wait_last : Each (λ wait. number_of wait < counts.next) timers.waits
  wait_last =
      subst (λ n. Each (λ wait. number_of wait < n) timers.waits) (sym next_is)
      (below_next marks (state_of limits past).next (state_of limits past).ops timers.waits shows.below waits.each)

  pub wait_shown : (op : ReadyOp H) → op.number ≡ counts.next →
      Shows marks limits (counts_posted counts) names (later_cells on op cells) jobs
      (after (event.Called counts.next None (waiting_on on timer (marks handler)) gone.Nothing) (state_of limits past))
  wait_shown op number =
      let s = state_of limits past in
      subst
      (λ n. Shows marks limits (counts_posted counts) names (later_cells on op cells) jobs
      (accepted_state n on timer (marks handler) s)) (sym next_is)
      (shows_accepted marks limits counts names cells jobs s timer handler op shows on may.there (number ∙ next_is))

  pub wait_pending : (place : ℕ) →
      ShowsWaits marks limits
      (with_wait (record {
        place = place;
        item = record {
          op = counts.next;
          timer = timer;
          item = record { lane = on; handler = handler };
        };
      }) timers)
      (after (event.Called counts.next None (waiting_on on timer (marks handler)) gone.Nothing) (state_of limits past))
  wait_pending place =
      let s = state_of limits past in
      subst
      (λ n. ShowsWaits marks limits
      (with_wait (record {
        place = place;
        item = record {
          op = n;
          timer = timer;
          item = record { lane = on; handler = handler };
        };
      }) timers) (accepted_state n on timer (marks handler) s))
      (sym next_is)
      (waits_accepted marks limits timers s waits on timer handler place shows.below wait_some)

-- one that isn't ready is tied to the strand of a lane
pub tied_at : {H S : Type 0} (op : ReadyOp H) (on : Lane) (name : Name) (cells : List (Cell H S)) (new : Cell H S) →
    on ≡ lane.Strand name → new ≡ called Later op (cell_at cells name.place) →
    slice_set cells name.place new ≡ later_cells on op cells
tied_at op on name cells new at is =
    ap (λ c. slice_set cells name.place c) is ∙ ap (λ l. later_cells l op cells) (sym at)

-- Lanes, workers and the opener before the first event are what they are at any time: their seats
-- have made no step and know none.
use Rattle.std.proofs.Common.{◌≡◌, ℕ, zero, suc, ◌+◌, ◌<◌, ◌≤◌, Bool, true, false, not, [], Option, Some, None, length, replicate, refl, sym, ap, subst, ◌∙◌, arith}
use Rattle.std.specs.Prelude.{◌&&◌, IsTrue, is_some}
use Rattle.std.specs.Option.{option_map}
use Rattle.op_handlers.specs.Marks.{Marks}
use Rattle.op_handlers.specs.declared.call.Call.{Call}
use Rattle.op_handlers.specs.Rack.{handler_at}
use Rattle.op_handlers.specs.declared.rack.Rack.{Rack}
use Rattle.session_script.specs.Script.{ScriptModel, is_op}
use Rattle.history_rules.specs.State.{first_reactor}
use Rattle.reactor_trait.specs.Reactor.{Outside, ReactorState}
use Rattle.proactor_core.specs.Proactor.{ProactorView}
use Rattle.reactor_turns.specs.Ahead.{TurnsAreBounded, events_ahead, most_turn_events}
use Rattle.strand_core.specs.Hands.{Held, held_at, taken_at}
use Rattle.strand_core.specs.Room.{room_for}
use Rattle.strand_core.proofs.RoomLemmas.{room_for-less}
use Rattle.lane_clock.specs.Knowledge.{owns_only, steps_at, unknown}
use Rattle.lane_clock.specs.Seats.{ClockId, Owns, SeatView, own}
use Rattle.lane_clock.specs.Steps.{draw_count, most_draws, place_count, step_count}
use Rattle.lane_map.specs.LaneNumbers.{is_op_on, reactor_lane}
use Rattle.lane_logs.specs.Knowing.{joined_count}
use Rattle.lane_logs.specs.Names.{SessionNames}
use Rattle.lane_logs.specs.SeatNumbers.{IsWorkerSeat, opener_seat}
use Rattle.lane_logs.specs.SeatNumbers as numbers
use Rattle.lane_logs.specs.Stand.{first_stand}
use Rattle.lane_turns.specs.Batons.{HaveHands, IsHandlerBaton, IsLane, opener_known, room_held}
use Rattle.lane_turns.specs.Firsts.{IsStarted, first_lane, first_opener, first_worker}
use Rattle.lane_turns.specs.Openers.{IsOpener}
use Rattle.lane_turns.specs.Pens.{MayGo, PenView}
use Rattle.lane_turns.specs.Rooms.{IsNewPen, lane_room, opener_room, worker_room}
use Rattle.lane_context.specs.Setup.{HasTaken, HoldsNamed}
use Rattle.lane_turns.specs.Turning.{IsReactorBaton}
use Rattle.lane_turns.specs.Workers.{IsWorker}

-- of no number a new seat knows a step
unknown_at : (seats n : ℕ) → steps_at (replicate seats unknown) n ≡ []
unknown_at zero n = refl
unknown_at (suc seats) zero = refl
unknown_at (suc seats) (suc n) = unknown_at seats n

pub nothing_known : (me seats n : ℕ) → steps_at (owns_only me seats) n ≡ []
nothing_known me zero n = refl
nothing_known zero (suc seats) zero = refl
nothing_known zero (suc seats) (suc n) = unknown_at seats n
nothing_known (suc me) (suc seats) zero = refl
nothing_known (suc me) (suc seats) (suc n) = nothing_known me seats n

module _ (clock : ClockId) (number most : ℕ) (pen : PenView) (new : IsNewPen clock number most pen) where
  pub new_knows : (n : ℕ) → steps_at pen.seat.known n ≡ []
  new_knows n =
      ap (λ (seat : SeatView). steps_at seat.known n) new.seat ∙ nothing_known number clock.plan.seats n

  pub new_own : own pen.seat ≡ []
  new_own = new_knows pen.seat.number

  pub new_number : pen.seat.number ≡ number
  new_number = ap (λ (seat : SeatView). seat.number) new.seat

  pub new_clock : pen.seat.clock ≡ clock
  new_clock = ap (λ (seat : SeatView). seat.clock) new.seat

  pub new_may_go : (draws places : ℕ) → draws ≤ most → places ≤ most → most ≤ most_draws → MayGo pen draws places
  new_may_go draws places less fewer fits =
      let drawn : step_count draw_count (own pen.seat) ≡ 0 = ap (step_count draw_count) new_own in
      let placed : step_count place_count (own pen.seat) ≡ 0 = ap (step_count place_count) new_own in
      record {
        log = omega (arith, new.room, less);
        draws_left = omega (arith, drawn, less, fits);
        places_left = omega (arith, placed, fewer, fits);
      }

  -- a lane that has executed nothing
  pub lane_begins : (names : SessionNames) → number < numbers.lane_count names.script →
      IsLane names clock (first_lane names.script number pen)
  lane_begins names there =
      let none : opener_known names.script pen.seat ≡ [] = new_knows (opener_seat names.script) in
      record {
        clock_is = new_clock;
        number = new_number;
        owns = new.owns;
        there = there;
        log = record { parts = []; are = tt; steps = new_own; shown = new.log; first = refl };
        next = refl;
        known = rw (new_own, none) refl;
        base_is = rw none refl;
        running_is = rw none refl;
      }

  pub worker_begins : (names : SessionNames) → IsWorkerSeat names.script number → worker_room names.script ≤ most →
      worker_room names.script ≤ most_draws → IsWorker names.script clock (first_worker names.script pen)
  worker_begins names worker room fits =
      let none : opener_known names.script pen.seat ≡ [] = new_knows (opener_seat names.script) in
      record {
        clock_is = new_clock;
        number = subst (IsWorkerSeat names.script) (sym new_number) worker;
        owns = subst (Owns pen.seat) (sym new_number) new.owns;
        log = record { parts = []; are = tt; steps = new_own; shown = new.log };
        known = rw (new_own, none) refl;
        in_round = rw none (record { base_is = λ so. refl; closed = omega arith });
        few = omega arith;
        room = omega (arith, room, new.room);
        draws = rw new_own refl;
        places = rw new_own refl;
        short = fits;
      }

-- the handlers that a lane took from the rack
module _ {H : Type 0} (names : SessionNames) (marks : H → Marks) (lane : ℕ) (rack : Rack H) (hands : Held H)
    (holds : HoldsNamed names marks rack) (script : hands.script ≡ names.script)
    (taken : HasTaken names.script lane rack hands) where
  on_op : (op home : Bool) → (op && home) ≡ true → op ≡ true
  on_op true home is = refl
  on_op false home is = absurd (cc is)

  there : (n : ℕ) (m : Marks) (test : Bool) (handler : Option H) →
      (test ≡ true → option_map marks handler ≡ Some m) → is_some (taken_at test handler) ≡ (test && not false)
  there n m true (Some handler) held = refl
  there n m true None held = absurd (let none = held refl in cc none)
  there n m false handler held = refl

  run_by : (test : Bool) (handler : Option H) (m : Marks) (call : Call) (mark : ℕ) →
      (test ≡ true → option_map marks handler ≡ Some m) →
      option_map (λ h. (marks h).run call) (taken_at test handler) ≡ Some mark → mark ≡ m.run call
  run_by true (Some handler) m call mark held is =
      let same : marks handler ≡ m = let held_so = held refl in cc held_so in
      let one : (marks handler).run call ≡ mark = cc is in
      sym one ∙ ap (λ (x : Marks). x.run call) same
  run_by true None m call mark held is = absurd (cc is)
  run_by false handler m call mark held is = absurd (cc is)

  drop_by : (test : Bool) (handler : Option H) (m : Marks) (mark : ℕ) →
      (test ≡ true → option_map marks handler ≡ Some m) →
      option_map (λ h. (marks h).drop) (taken_at test handler) ≡ Some mark → mark ≡ m.drop
  drop_by true (Some handler) m mark held is =
      let same : marks handler ≡ m = let held_so = held refl in cc held_so in
      let one : (marks handler).drop ≡ mark = cc is in
      sym one ∙ ap (λ (x : Marks). x.drop) same
  drop_by true None m mark held is = absurd (cc is)
  drop_by false handler m mark held is = absurd (cc is)

  held_marks : (n : ℕ) → is_op_on names.script lane n ≡ true →
      option_map marks (handler_at rack n) ≡ Some (record { run = names.run n; drop = names.drop n })
  held_marks n is = holds n (on_op (is_op names.script n) _ is)

  pub hands_begin : HaveHands names marks lane [] hands
  hands_begin =
      record {
        script = script;
        held = λ op.
            ap is_some (taken op)
            ∙ there op (record { run = names.run op; drop = names.drop op }) (is_op_on names.script lane op)
            (handler_at rack op) (held_marks op);
        run = λ call mark is.
            run_by (is_op_on names.script lane call.op) (handler_at rack call.op)
            (record { run = names.run call.op; drop = names.drop call.op }) call mark (held_marks call.op)
            (sym (ap (option_map (λ h. (marks h).run call)) (taken call.op)) ∙ is);
        drop = λ op mark is.
            drop_by (is_op_on names.script lane op) (handler_at rack op)
            (record { run = names.run op; drop = names.drop op }) mark (held_marks op)
            (sym (ap (option_map (λ h. (marks h).drop)) (taken op)) ∙ is);
      }

and_left : (test other : Bool) → (test && other) ≡ true → test ≡ true
and_left true other is = refl
and_left false other is = absurd (cc is)

-- a lane with its handlers has room for what these show
pub baton_begins : {H : Type 0} (names : SessionNames) (marks : H → Marks) (clock : ClockId) (lane : ℕ)
    (pen : PenView) (hands : Held H) → IsNewPen clock lane (lane_room names.script lane) pen →
    HaveHands names marks lane pen.log hands → lane < reactor_lane names.script →
    numbers.lane_count names.script ≡ reactor_lane names.script + 1 → lane_room names.script lane ≤ most_draws →
    IsHandlerBaton names marks clock (record { lane = first_lane names.script lane pen; hands = hands })
baton_begins names marks clock lane pen hands new have strand count fits =
    let same : room_held hands ≡ room_for names.script (λ op. is_some (held_at hands op)) =
    ap (λ script. room_for script (λ op. is_some (held_at hands op))) have.script in
    let less : room_for names.script (λ op. is_some (held_at hands op)) ≤ lane_room names.script lane =
    room_for-less names.script (λ op. is_some (held_at hands op)) (is_op_on names.script lane)
    (λ op is. and_left (is_op_on names.script lane op) _ (sym (have.held op) ∙ is)) in
    let within : room_held hands ≤ lane_room names.script lane = omega (arith, same, less) in
    record {
      is_lane = lane_begins clock lane (lane_room names.script lane) pen new names (omega (arith, strand, count));
      strand = strand;
      hold = have;
      room =
          new_may_go clock lane (lane_room names.script lane) pen new (room_held hands) (room_held hands) within within
          fits;
    }

-- the reactor's lane before its first turn
pub reactor_begins : {X : Type 0} (names : SessionNames) (state : X → ReactorState) (told : X → Option Outside)
    (faults : X → ℕ) (named : ℕ) (clock : ClockId) (lane : ℕ) (pen : PenView) (view : ProactorView X) →
    TurnsAreBounded → IsNewPen clock lane (most_turn_events names.script) pen → lane ≡ reactor_lane names.script →
    numbers.lane_count names.script ≡ reactor_lane names.script + 1 → most_turn_events names.script ≤ most_draws →
    IsStarted names state told faults named view →
    IsReactorBaton names state told faults named clock
    (record { lane = first_lane names.script lane pen; proactor = view })
reactor_begins {X} names state told faults named clock lane pen view bounded new last count fits started =
    let starts = bounded names.script names.told in
    let may =
    new_may_go clock lane (most_turn_events names.script) pen new
    (events_ahead names.script (first_reactor names.script names.told))
    (events_ahead names.script (first_reactor names.script names.told)) starts.bounded starts.bounded fits in
    rw new.log
    (record {
      is_lane =
          rw (← new.log)
          (lane_begins clock lane (most_turn_events names.script) pen new names (omega (arith, last, count)));
      last = last;
      keeps =
          record {
            script = started.same_script;
            in_step = record {
              tells = started.same_tells;
              up = subst (λ (s : ReactorState). IsTrue s.up) (sym started.ready) refl;
              now = ap (λ (s : ReactorState). s.now) started.ready;
            };
            turned = λ _. record {
              telling = record {
                working = started.working;
                works = refl;
                sound = started.sound;
                follows = started.follows;
              };
              told_all = started.nothing_due;
              none_due = refl;
              drained = λ last. absurd (cc last);
            };
            failed = sym started.working;
            is_half = starts.is_half;
            least = let same = started.counted in omega (arith, same);
            stood = λ _. started.counted;
            rose = λ failed. absurd (let works = started.working in cc (works, failed));
          };
      room = record { log = may.log; draws_left = may.draws_left; places_left = may.places_left };
    })

-- the opener that has drawn nothing
pub opener_begins : (script : ScriptModel) (clock : ClockId) (pen : PenView) →
    IsNewPen clock (opener_seat script) (opener_room script) pen → opener_room script ≤ most_draws →
    IsOpener script clock (first_opener script pen)
opener_begins script clock pen new fits =
    let none : own pen.seat ≡ [] = new_own clock (opener_seat script) (opener_room script) pen new in
    let knows = new_knows clock (opener_seat script) (opener_room script) pen new in
    record {
      clock_is = new_clock clock (opener_seat script) (opener_room script) pen new;
      number = new_number clock (opener_seat script) (opener_room script) pen new;
      owns = new.owns;
      log = record {
        parts = [];
        are = tt;
        steps = knows (opener_seat script);
        shown = new.log;
      };
      known = record {
        others = λ n _. ap (joined_count n) none ∙ sym (ap length (knows n));
        itself = omega (arith, ap (joined_count pen.seat.number) none);
      };
      stand_is = rw none refl;
      room =
          new_may_go clock (opener_seat script) (opener_room script) pen new (opener_room script)
          (first_stand script).opening (omega arith) (omega arith) fits;
    }

use Rattle.std.proofs.Common.{ap, arith, inl, refl, subst, sym, Some, ◌∙◌}
use Rattle.lane_turns.specs.Batons.{BatonView}
use Rattle.lane_turns.specs.LaneValues.{HasWorked, handlers, terms}
use Rattle.lane_turns.proofs.AttemptLemmas.{ends_at, rests_at, same_lane, stands_on}
use Rattle.lane_turns.proofs.BatonLemmas.{baton_after, lane_has_cells, ops_known}
use Rattle.lane_turns.proofs.PosterLemmas.{room_stays}
use Rattle.lane_turns.proofs.handler_baton.HandlerBaton.work.Goals as goal

pub loop-init : goal.loop-init
loop-init g c =
    record {
      few = omega arith;
      stands = inl (refl, refl, ap (λ (v : BatonView g.row.H.Denot). handlers (Some v)) c.self.view_is);
      baton = c.self.invariant;
      home = ap (λ (v : BatonView g.row.H.Denot). v.lane.lane) c.self.view_is;
      none = c.requires.none;
      buffer = c.requires.buffer;
    }

pub poll_handlers-next-requires-clause-lane : goal.poll_handlers-next-requires-clause-lane
poll_handlers-next-requires-clause-lane g c =
    lane_has_cells g.N.LaneSession.names g.N.LaneSession.clock c.args.script.now c.loop.came.lane
    c.loop.invariant.baton.is_lane c.requires.script c.lanes_have_cells.ensures.count

pub poll_handlers-next-requires-clause-known : goal.poll_handlers-next-requires-clause-known
poll_handlers-next-requires-clause-known g c =
    ops_known g.N.LaneSession.names g.H.CompletionHandler.marks c.args.script.now c.loop.came.lane.lane
    c.loop.came.lane.pen.log c.loop.hands c.loop.invariant.baton.hold c.requires.script

pub of-requires : goal.of-requires
of-requires g c =
    baton_after g.N.LaneSession.names g.H.CompletionHandler.marks g.N.LaneSession.clock c.loop.came.lane
    c.poll_handlers-next.result.lane c.loop.hands c.poll_handlers-next.new.hands c.loop.invariant.baton
    c.poll_handlers-next.result.one c.poll_handlers-next.ensures.room c.poll_handlers-next.ensures.came

pub of-requires-then-not-is_done : goal.of-requires-then-not-is_done
of-requires-then-not-is_done g c =
    baton_after g.N.LaneSession.names g.H.CompletionHandler.marks g.N.LaneSession.clock c.loop.came.lane
    c.poll_handlers-next.result.lane c.loop.hands c.poll_handlers-next.new.hands c.loop.invariant.baton
    c.poll_handlers-next.result.one c.poll_handlers-next.ensures.room c.poll_handlers-next.ensures.came

pub returns-then-is_nothing-clause-worked : goal.returns-then-is_nothing-clause-worked
returns-then-is_nothing-clause-worked g c =
    let t =
    terms g.N.LaneSession.names g.H.CompletionHandler.marks g.X.Reactor.state g.X.Reactor.told g.X.Reactor.faults
    g.N.LaneSession.faults g.N.LaneSession.clock in
    let was : BatonView g.row.H.Denot = record { lane = c.loop.came.lane; hands = c.loop.hands } in
    let now : BatonView g.row.H.Denot =
    record { lane = c.poll_handlers-next.result.lane; hands = c.poll_handlers-next.new.hands } in
    subst (λ (v : BatonView g.row.H.Denot).
    HasWorked t c.args.most c.of.result.one (handlers (Some c.args.self)) (handlers (Some v)))
    (sym c.of.ensures.baton)
    (subst (λ a. HasWorked t c.args.most a (handlers (Some c.args.self)) (handlers (Some now)))
    (sym c.of.ensures.one)
    (rests_at t c.loop.counter c.args.most c.loop.came.one c.poll_handlers-next.result.one (handlers (Some c.args.self))
    (handlers (Some was)) (handlers (Some now)) c.loop.invariant.stands (omega (arith, c.loop-test.true))
    (sym c.is_nothing.ensures ∙ c.if-is_nothing.true) c.poll_handlers-next.ensures.came))

pub returns-then-not-is_done-clause-worked : goal.returns-then-not-is_done-clause-worked
returns-then-not-is_done-clause-worked g c =
    let t =
    terms g.N.LaneSession.names g.H.CompletionHandler.marks g.X.Reactor.state g.X.Reactor.told g.X.Reactor.faults
    g.N.LaneSession.faults g.N.LaneSession.clock in
    let was : BatonView g.row.H.Denot = record { lane = c.loop.came.lane; hands = c.loop.hands } in
    let now : BatonView g.row.H.Denot =
    record { lane = c.poll_handlers-next.result.lane; hands = c.poll_handlers-next.new.hands } in
    subst (λ (v : BatonView g.row.H.Denot).
    HasWorked t c.args.most c.of-then-not-is_done.result.one (handlers (Some c.args.self)) (handlers (Some v)))
    (sym c.of-then-not-is_done.ensures.baton)
    (subst (λ a. HasWorked t c.args.most a (handlers (Some c.args.self)) (handlers (Some now)))
    (sym c.of-then-not-is_done.ensures.one)
    (ends_at t c.loop.counter c.args.most c.loop.came.one c.poll_handlers-next.result.one (handlers (Some c.args.self))
    (handlers (Some was)) (handlers (Some now)) c.loop.invariant.stands (omega (arith, c.loop-test.true))
    c.poll_handlers-next.ensures.came))

pub loop-preserved : goal.loop-preserved
loop-preserved g c =
    let t =
    terms g.N.LaneSession.names g.H.CompletionHandler.marks g.X.Reactor.state g.X.Reactor.told g.X.Reactor.faults
    g.N.LaneSession.faults g.N.LaneSession.clock in
    let was : BatonView g.row.H.Denot = record { lane = c.loop.came.lane; hands = c.loop.hands } in
    let now : BatonView g.row.H.Denot =
    record { lane = c.poll_handlers-next.result.lane; hands = c.poll_handlers-next.new.hands } in
    record {
      few = omega (arith, c.loop-test.true);
      stands =
          stands_on t c.loop.counter c.loop.came.one c.poll_handlers-next.result.one (handlers (Some c.args.self))
          (handlers (Some was)) (handlers (Some now)) c.loop.invariant.stands c.poll_handlers-next.ensures.came
          (sym c.is_done.ensures ∙ c.if-not-is_done.false);
      baton =
          baton_after g.N.LaneSession.names g.H.CompletionHandler.marks g.N.LaneSession.clock c.loop.came.lane
          c.poll_handlers-next.result.lane c.loop.hands c.poll_handlers-next.new.hands c.loop.invariant.baton
          c.poll_handlers-next.result.one c.poll_handlers-next.ensures.room c.poll_handlers-next.ensures.came;
      home =
          same_lane g.H.CompletionHandler.marks c.poll_handlers-next.result.one c.loop.came.lane
          c.poll_handlers-next.result.lane c.loop.hands c.poll_handlers-next.new.hands
          c.poll_handlers-next.ensures.came
          ∙ c.loop.invariant.home;
      none = c.clear.ensures.items;
      buffer = room_stays _ _ _ c.clear.ensures.capacity c.poll_handlers-next.ensures.buffer;
    }

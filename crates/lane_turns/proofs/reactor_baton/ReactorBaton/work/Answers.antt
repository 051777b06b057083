use Rattle.std.proofs.Common.{arith, inl, refl, sym, Some, ◌∙◌}
use Rattle.lane_turns.specs.LaneValues.{reactor, terms}
use Rattle.lane_turns.proofs.AttemptLemmas.{ends_at, rests_at, stands_on, worked_at}
use Rattle.lane_turns.proofs.reactor_baton.ReactorBaton.work.Goals as goal

pub loop-init : goal.loop-init
loop-init g c = record { few = omega arith; stands = inl (refl, refl, refl); home = refl }

pub returns-then-is_nothing-clause-worked : goal.returns-then-is_nothing-clause-worked
returns-then-is_nothing-clause-worked g c =
    let t =
    terms g.N.LaneSession.names g.H.CompletionHandler.marks g.X.Reactor.state g.X.Reactor.told g.X.Reactor.faults
    g.N.LaneSession.faults g.N.LaneSession.clock in
    rests_at t c.loop.counter c.args.most c.loop.last c.poll_noted-one.result (reactor (Some c.args.self.now))
    (reactor (Some c.loop.self)) (reactor (Some c.poll_noted-one.new.self)) c.loop.invariant.stands
    (omega (arith, c.loop-test.true)) (sym c.is_nothing.ensures ∙ c.if-is_nothing.true) c.poll_noted-one.ensures.came

pub returns-then-is_nothing-clause-home : goal.returns-then-is_nothing-clause-home
returns-then-is_nothing-clause-home g c = c.poll_noted-one.ensures.home ∙ c.loop.invariant.home

pub returns-then-not-is_done-clause-worked : goal.returns-then-not-is_done-clause-worked
returns-then-not-is_done-clause-worked g c =
    let t =
    terms g.N.LaneSession.names g.H.CompletionHandler.marks g.X.Reactor.state g.X.Reactor.told g.X.Reactor.faults
    g.N.LaneSession.faults g.N.LaneSession.clock in
    ends_at t c.loop.counter c.args.most c.loop.last c.poll_noted-one.result (reactor (Some c.args.self.now))
    (reactor (Some c.loop.self)) (reactor (Some c.poll_noted-one.new.self)) c.loop.invariant.stands
    (omega (arith, c.loop-test.true)) c.poll_noted-one.ensures.came

pub returns-then-not-is_done-clause-home : goal.returns-then-not-is_done-clause-home
returns-then-not-is_done-clause-home g c = c.poll_noted-one.ensures.home ∙ c.loop.invariant.home

pub loop-preserved : goal.loop-preserved
loop-preserved g c =
    let t =
    terms g.N.LaneSession.names g.H.CompletionHandler.marks g.X.Reactor.state g.X.Reactor.told g.X.Reactor.faults
    g.N.LaneSession.faults g.N.LaneSession.clock in
    record {
      few = omega (arith, c.loop-test.true);
      stands =
          stands_on t c.loop.counter c.loop.last c.poll_noted-one.result (reactor (Some c.args.self.now))
          (reactor (Some c.loop.self)) (reactor (Some c.poll_noted-one.new.self)) c.loop.invariant.stands
          c.poll_noted-one.ensures.came (sym c.is_done.ensures ∙ c.if-not-is_done.false);
      home = c.poll_noted-one.ensures.home ∙ c.loop.invariant.home;
    }

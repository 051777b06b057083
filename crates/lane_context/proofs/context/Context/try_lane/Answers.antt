use Rattle.std.proofs.Common.{◌≤◌, None, refl, subst}
use Rattle.std.specs.Prelude.{vec_capacity}
use Rattle.session_script.specs.Script.{ScriptModel}
use Rattle.lane_turns.specs.LaneValues.{terms, tries}
use Rattle.lane_turns.specs.Polling.{most_made}
use Rattle.lane_turns.proofs.AttemptLemmas.{given_back, gives_kept, gives_none, had_turn}
use Rattle.lane_context.proofs.context.Context.try_lane.Goals as goal

pub returns-then-is_fault-clause-tried : goal.returns-then-is_fault-clause-tried
returns-then-is_fault-clause-tried g c =
    let t =
    tries (terms g.N.LaneSession.names g.H.CompletionHandler.marks g.X.Reactor.state g.X.Reactor.told g.X.Reactor.faults
    g.N.LaneSession.faults g.N.LaneSession.clock) c.args.most in
    had_turn t c.args.lane c.work-baton.result.one c.args.turns.now c.take_turn.new.seat _ c.tell-2.new.self
    c.args.seat.now c.tell.new.worker c.tell-2.new.worker c.in-Some.baton c.tell.new.self c.work-baton.result.baton
    c.is_one.ensures c.is_one-2.ensures c.in-Some.ensures.home c.tell.ensures.same c.tell.ensures.heard
    c.work-baton.ensures.worked c.work-baton.ensures.home c.tell-2.ensures.same c.tell-2.ensures.heard
    (gives_kept t c.args.lane c.work-baton.result.one c.args.turns.now c.take_turn.new.seat _ c.tell-2.new.self
    c.is_fault.result c.is_fault.ensures c.if-is_fault.true c.in-Some.ensures.taken refl)

pub returns-clause-tried : goal.returns-clause-tried
returns-clause-tried g c =
    let t =
    tries (terms g.N.LaneSession.names g.H.CompletionHandler.marks g.X.Reactor.state g.X.Reactor.told g.X.Reactor.faults
    g.N.LaneSession.faults g.N.LaneSession.clock) c.args.most in
    had_turn t c.args.lane c.work-baton.result.one c.args.turns.now c.give_turn.new.seat None c.tell-2.new.self
    c.args.seat.now c.tell.new.worker c.tell-2.new.worker c.in-Some.baton c.tell.new.self c.work-baton.result.baton
    c.is_one.ensures c.is_one-2.ensures c.in-Some.ensures.home c.tell.ensures.same c.tell.ensures.heard
    c.work-baton.ensures.worked c.work-baton.ensures.home c.tell-2.ensures.same c.tell-2.ensures.heard
    (gives_none t c.args.lane c.work-baton.result.one c.args.turns.now c.give_turn.new.seat None c.tell-2.new.self
    c.is_fault.result c.is_fault.ensures c.if-is_fault.false
    (given_back c.args.lane c.args.turns.now c.take_turn.new.seat c.give_turn.new.seat c.requires.free
    c.in-Some.ensures.taken c.give_turn.ensures) refl)

pub returns-then-is_fault-clause-buffer : goal.returns-then-is_fault-clause-buffer
returns-then-is_fault-clause-buffer g c =
    subst (λ (s : ScriptModel). most_made s ≤ vec_capacity c.work-baton.result.made) c.self.invariant.script
    c.work-baton.ensures.buffer

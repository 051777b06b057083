use Rattle.std.proofs.Common.{subst, sym}
use Rattle.lane_turns.specs.Batons.{LaneView}
use Rattle.lane_turns.specs.Turning.{IsReactorBaton}
use Rattle.lane_turns.proofs.BatonMeetingLemmas.{reactor_meets}
use Rattle.lane_turns.proofs.reactor_baton.ReactorBatonAttendee.attend.Goals as goal

pub invariant_of-self : goal.invariant_of-self
invariant_of-self g c =
    let heard = rw (← c.self.view_is) at c.requires.heard in
    subst (λ (lane : LaneView).
    IsReactorBaton g.N.LaneSession.names g.X.Reactor.state g.X.Reactor.told g.X.Reactor.faults g.N.LaneSession.faults
    g.N.LaneSession.clock (record { lane = lane; proactor = c.self.inside.proactor })) (sym c.attend_lane.ensures.round)
    (reactor_meets g.N.LaneSession.names g.X.Reactor.state g.X.Reactor.told g.X.Reactor.faults g.N.LaneSession.faults
    g.N.LaneSession.clock c.args.opener.now.pen.seat c.self.inside.lane c.attend_lane.new.state.pen
    c.self.inside.proactor c.attend_lane.ensures.number c.self.invariant c.attend_lane.ensures.told heard.behind)

use Rattle.std.proofs.Common.{subst, sym}
use Rattle.lane_turns.specs.Batons.{IsHandlerBaton, LaneView}
use Rattle.lane_turns.proofs.BatonMeetingLemmas.{baton_meets}
use Rattle.lane_turns.proofs.handler_baton.HandlerBatonAttendee.attend.Goals as goal

pub invariant_of-self : goal.invariant_of-self
invariant_of-self g c =
    let heard = rw (← c.self.view_is) at c.requires.heard in
    subst (λ (lane : LaneView).
    IsHandlerBaton g.N.LaneSession.names g.H.CompletionHandler.marks g.N.LaneSession.clock
    (record { lane = lane; hands = c.self.inside.hands })) (sym c.attend_lane.ensures.round)
    (baton_meets g.N.LaneSession.names g.H.CompletionHandler.marks g.N.LaneSession.clock c.args.opener.now.pen.seat
    c.self.inside.lane c.attend_lane.new.state.pen c.self.inside.hands c.attend_lane.ensures.number c.self.invariant
    c.attend_lane.ensures.told
    heard.behind)

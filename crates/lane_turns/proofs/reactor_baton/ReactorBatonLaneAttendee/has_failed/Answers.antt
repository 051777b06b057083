use Rattle.std.proofs.Common.{sym, ◌∙◌}
use Rattle.lane_turns.proofs.ReactorStopLemmas.{reactor_goes_on}
use Rattle.lane_turns.proofs.reactor_baton.ReactorBatonLaneAttendee.has_failed.Goals as goal

pub returns : goal.returns
returns g c works same =
    rw (← c.self.view_is)
    (reactor_goes_on g.N.LaneSession.names g.N.LaneSession.clock c.self.inside.lane c.self.invariant.is_lane
    c.self.invariant.last (c.self.invariant.keeps.failed ∙ sym c.failed.ensures ∙ works))

use Rattle.lane_turns.proofs.LaneStartedLemmas.{lane_started}
use Rattle.lane_turns.proofs.reactor_baton.ReactorBatonAttendee.report.Goals as goal

pub returns-clause-started : goal.returns-clause-started
returns-clause-started g c =
    rw (← c.self.view_is)
    (lane_started g.N.LaneSession.names g.N.LaneSession.clock c.self.inside.lane c.self.invariant.is_lane)

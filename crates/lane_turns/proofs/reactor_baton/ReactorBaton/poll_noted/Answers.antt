use Rattle.lane_turns.proofs.AttemptLemmas.{same_reactor_lane}
use Rattle.lane_turns.proofs.reactor_baton.ReactorBaton.poll_noted.Goals as goal

pub returns-clause-home : goal.returns-clause-home
returns-clause-home g c =
    same_reactor_lane g.N.LaneSession.names g.X.Reactor.faults c.poll-one.result c.args.self.now.lane
    c.poll-one.new.self.lane c.args.self.now.proactor c.poll-one.new.self.proactor c.poll-one.ensures.came

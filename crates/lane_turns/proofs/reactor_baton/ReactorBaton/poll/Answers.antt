use Rattle.lane_turns.proofs.BatonLemmas.{lane_has_cells}
use Rattle.lane_turns.proofs.ReactorBatonLemmas.{reactor_after_poll}
use Rattle.lane_turns.proofs.reactor_baton.ReactorBaton.poll.Goals as goal

pub poll_reactor-requires-clause-lane : goal.poll_reactor-requires-clause-lane
poll_reactor-requires-clause-lane g c =
    lane_has_cells g.N.LaneSession.names g.N.LaneSession.clock c.args.script.now c.self.inside.lane
    c.self.invariant.is_lane c.requires.script c.lanes_have_cells.ensures.count

pub invariant_of-self : goal.invariant_of-self
invariant_of-self g c =
    reactor_after_poll g.N.LaneSession.names g.X.Reactor.state g.X.Reactor.told g.X.Reactor.faults g.N.LaneSession.faults
    g.N.LaneSession.clock c.self.inside.lane c.poll_reactor.new.state c.self.inside.proactor
    c.poll_reactor.new.proactor c.poll_reactor.result c.self.invariant c.poll_reactor.ensures.came
    c.poll_reactor.ensures.keeps c.poll_reactor.ensures.room

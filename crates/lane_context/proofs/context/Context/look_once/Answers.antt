use Rattle.lane_turns.specs.declared.one.One.TheVariants as one
use Rattle.lane_turns.specs.LaneValues.{terms, tries}
use Rattle.lane_context.proofs.RunLemmas.{came_last, nothing_ends}
use Rattle.lane_turns.proofs.ScanLemmas.{on_and_on}
use Rattle.lane_context.proofs.context.Context.look_once.Goals as goal

pub returns-in-Fault-clause-ended : goal.returns-in-Fault-clause-ended
returns-in-Fault-clause-ended g c =
    let t =
    tries (terms g.N.LaneSession.names g.H.CompletionHandler.marks g.X.Reactor.state g.X.Reactor.told g.X.Reactor.faults
    g.N.LaneSession.faults g.N.LaneSession.clock) 16 in
    came_last t c.args.self.now.lanes one.Fault c.args.worker.now c.look_round.new.worker c.in-Fault.ensures.looked

pub returns-in-Nothing-clause-ended : goal.returns-in-Nothing-clause-ended
returns-in-Nothing-clause-ended g c =
    let t =
    tries (terms g.N.LaneSession.names g.H.CompletionHandler.marks g.X.Reactor.state g.X.Reactor.told g.X.Reactor.faults
    g.N.LaneSession.faults g.N.LaneSession.clock) 16 in
    nothing_ends t c.args.self.now.lanes c.args.worker.now c.look_round.new.worker c.settle.new.worker c.settle.result
    c.in-Nothing.ensures.on c.in-Nothing.ensures.looked c.settle.ensures.ended

pub returns-in-Nothing-clause-on : goal.returns-in-Nothing-clause-on
returns-in-Nothing-clause-on g c =
    on_and_on c.args.worker.now c.look_round.new.worker c.settle.new.worker c.in-Nothing.ensures.on c.settle.ensures.on

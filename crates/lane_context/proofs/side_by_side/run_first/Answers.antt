use Rattle.lane_turns.specs.LaneValues.{terms, tries}
use Rattle.lane_context.proofs.SideBySideLemmas.{all_there, first_ran, first_seated, logs_stay, still_ready}
use Rattle.lane_context.proofs.side_by_side.run_first.Goals as goal

pub run_each-requires-clause-may : goal.run_each-requires-clause-may
run_each-requires-clause-may g c κs within k d below =
    first_seated c.args.context.now g.N.LaneSession.names.script c.args.count c.args.all.now c.requires.ready k d below

pub returns-clause-ran : goal.returns-clause-ran
returns-clause-ran g c =
    let t =
    tries (terms g.N.LaneSession.names g.H.CompletionHandler.marks g.X.Reactor.state g.X.Reactor.told g.X.Reactor.faults
    g.N.LaneSession.faults g.N.LaneSession.clock) 16 in
    first_ran t c.args.context.now c.args.count c.args.all.now c.run_each.new.workers c.run_each.ensures.size
    c.run_each.ensures.ran

pub returns-clause-ready : goal.returns-clause-ready
returns-clause-ready g c =
    let t =
    tries (terms g.N.LaneSession.names g.H.CompletionHandler.marks g.X.Reactor.state g.X.Reactor.told g.X.Reactor.faults
    g.N.LaneSession.faults g.N.LaneSession.clock) 16 in
    still_ready t c.args.context.now c.args.count c.args.all.now _
    (all_there t c.args.context.now c.args.count c.args.all.now c.run_each.new.workers c.run_each.ensures.size)
    (first_ran t c.args.context.now c.args.count c.args.all.now c.run_each.new.workers c.run_each.ensures.size
    c.run_each.ensures.ran) g.N.LaneSession.names.script c.requires.ready

pub returns-clause-logs : goal.returns-clause-logs
returns-clause-logs g c =
    let t =
    tries (terms g.N.LaneSession.names g.H.CompletionHandler.marks g.X.Reactor.state g.X.Reactor.told g.X.Reactor.faults
    g.N.LaneSession.faults g.N.LaneSession.clock) 16 in
    logs_stay t c.args.context.now c.args.count c.args.all.now _
    (all_there t c.args.context.now c.args.count c.args.all.now c.run_each.new.workers c.run_each.ensures.size)
    (first_ran t c.args.context.now c.args.count c.args.all.now c.run_each.new.workers c.run_each.ensures.size
    c.run_each.ensures.ran)

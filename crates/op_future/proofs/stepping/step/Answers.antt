use Rattle.lane_turns.specs.LaneValues.{terms, tries}
use Rattle.op_future.specs.Steps.{party}
use Rattle.op_future.proofs.StepLemmas.{got_on, got_round, option_ends_on}
use Rattle.op_future.proofs.stepping.step.Goals as goal

pub returns-in-Some-collect-clause-got : goal.returns-in-Some-collect-clause-got
returns-in-Some-collect-clause-got g c =
    got_round g.N.LaneSession.names.script (party c.args.worker.now (g.T.Task.state c.args.task.now))
    c.collect.new.worker c.poll_one-one.new.worker c.collect-2.new.worker (g.T.Task.state c.collect.new.task)
    (g.T.Task.state c.collect-2.new.task) c.collect.ensures.got c.poll_one-one.ensures.on c.collect-2.ensures.got

pub returns-in-Stopped-clause-got : goal.returns-in-Stopped-clause-got
returns-in-Stopped-clause-got g c =
    got_round g.N.LaneSession.names.script (party c.args.worker.now (g.T.Task.state c.args.task.now))
    c.collect.new.worker c.poll_one-one.new.worker c.collect-2.new.worker (g.T.Task.state c.collect.new.task)
    (g.T.Task.state c.collect-2.new.task) c.collect.ensures.got c.poll_one-one.ensures.on c.collect-2.ensures.got

pub returns-in-Fault-clause-got : goal.returns-in-Fault-clause-got
returns-in-Fault-clause-got g c =
    got_round g.N.LaneSession.names.script (party c.args.worker.now (g.T.Task.state c.args.task.now))
    c.collect.new.worker c.poll_one-one.new.worker c.collect-2.new.worker (g.T.Task.state c.collect.new.task)
    (g.T.Task.state c.collect-2.new.task) c.collect.ensures.got c.poll_one-one.ensures.on c.collect-2.ensures.got

pub returns-in_default-one-clause-got : goal.returns-in_default-one-clause-got
returns-in_default-one-clause-got g c =
    got_round g.N.LaneSession.names.script (party c.args.worker.now (g.T.Task.state c.args.task.now))
    c.collect.new.worker c.poll_one-one.new.worker c.collect-2.new.worker (g.T.Task.state c.collect.new.task)
    (g.T.Task.state c.collect-2.new.task) c.collect.ensures.got c.poll_one-one.ensures.on c.collect-2.ensures.got

pub returns-in-Nothing-clause-got : goal.returns-in-Nothing-clause-got
returns-in-Nothing-clause-got g c =
    got_on g.N.LaneSession.names.script (party c.args.worker.now (g.T.Task.state c.args.task.now))
    (party c.collect-2.new.worker (g.T.Task.state c.collect-2.new.task))
    (party c.settle.new.worker (g.T.Task.state c.settle.new.task))
    (got_round g.N.LaneSession.names.script (party c.args.worker.now (g.T.Task.state c.args.task.now))
    c.collect.new.worker c.poll_one-one.new.worker c.collect-2.new.worker (g.T.Task.state c.collect.new.task)
    (g.T.Task.state c.collect-2.new.task) c.collect.ensures.got c.poll_one-one.ensures.on c.collect-2.ensures.got) c.settle.ensures.got

pub returns-in-Nothing-clause-ended : goal.returns-in-Nothing-clause-ended
returns-in-Nothing-clause-ended g c =
    let t =
    tries (terms g.N.LaneSession.names g.H.CompletionHandler.marks g.X.Reactor.state g.X.Reactor.told g.X.Reactor.faults
    g.N.LaneSession.faults g.N.LaneSession.clock) 1 in
    let since =
    got_round g.N.LaneSession.names.script (party c.args.worker.now (g.T.Task.state c.args.task.now))
    c.collect.new.worker c.poll_one-one.new.worker c.collect-2.new.worker (g.T.Task.state c.collect.new.task)
    (g.T.Task.state c.collect-2.new.task) c.collect.ensures.got c.poll_one-one.ensures.on c.collect-2.ensures.got in
    option_ends_on t c.args.context.now.lanes c.settle.result
    (party c.args.worker.now (g.T.Task.state c.args.task.now))
    (party c.collect-2.new.worker (g.T.Task.state c.collect-2.new.task))
    (party c.settle.new.worker (g.T.Task.state c.settle.new.task)) since.on c.settle.ensures.ended

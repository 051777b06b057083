use Rattle.lane_turns.proofs.ScanLemmas.{looked_on}
use Rattle.op_future.specs.Steps.{party}
use Rattle.op_future.proofs.StepLemmas.{got_none, got_on}
use Rattle.op_future.proofs.stepping.settle.Goals as goal

pub returns-then-is_left-clause-got : goal.returns-then-is_left-clause-got
returns-then-is_left-clause-got g c =
    got_none g.N.LaneSession.names.script c.args.worker.now c.work-work.new.worker (g.T.Task.state c.args.task.now)
    (looked_on c.args.worker.now c.work-work.new.worker c.work-work.ensures.0 c.work-work.ensures.1)

pub returns-in-Some-clause-got : goal.returns-in-Some-clause-got
returns-in-Some-clause-got g c =
    got_on g.N.LaneSession.names.script (party c.args.worker.now (g.T.Task.state c.args.task.now))
    (party c.work-work.new.worker (g.T.Task.state c.args.task.now))
    (party c.collect.new.worker (g.T.Task.state c.collect.new.task))
    (got_none g.N.LaneSession.names.script c.args.worker.now c.work-work.new.worker (g.T.Task.state c.args.task.now)
    (looked_on c.args.worker.now c.work-work.new.worker c.work-work.ensures.0 c.work-work.ensures.1)) c.in-Some.ensures.got

pub returns-in-None-clause-got : goal.returns-in-None-clause-got
returns-in-None-clause-got g c =
    got_on g.N.LaneSession.names.script (party c.args.worker.now (g.T.Task.state c.args.task.now))
    (party c.work-work.new.worker (g.T.Task.state c.args.task.now))
    (party c.collect.new.worker (g.T.Task.state c.collect.new.task))
    (got_none g.N.LaneSession.names.script c.args.worker.now c.work-work.new.worker (g.T.Task.state c.args.task.now)
    (looked_on c.args.worker.now c.work-work.new.worker c.work-work.ensures.0 c.work-work.ensures.1)) c.in-None.ensures.got

use Rattle.lane_turns.specs.LaneValues.{terms, tries}
use Rattle.lane_turns.proofs.ScanLemmas.{on_same}
use Rattle.op_future.specs.Steps.{party}
use Rattle.op_future.proofs.StepLemmas.{ends_on, got_none, got_on}
use Rattle.op_future.proofs.running.run_task.Goals as goal

pub loop-init : goal.loop-init
loop-init g c =
    record {
      got = got_none g.N.LaneSession.names.script _ _ _ (on_same c.args.worker.now);
      turns = c.requires.turns;
    }

pub returns-in-Some-step-clause-got : goal.returns-in-Some-step-clause-got
returns-in-Some-step-clause-got g c =
    got_on g.N.LaneSession.names.script (party c.args.worker.now (g.T.Task.state c.args.task.now))
    (party c.loop.worker (g.T.Task.state c.loop.task)) (party c.step.new.worker (g.T.Task.state c.step.new.task))
    c.loop.invariant.got c.step.ensures.got

pub returns-in-Some-step-clause-ended : goal.returns-in-Some-step-clause-ended
returns-in-Some-step-clause-ended g c =
    let t =
    tries (terms g.N.LaneSession.names g.H.CompletionHandler.marks g.X.Reactor.state g.X.Reactor.told g.X.Reactor.faults
    g.N.LaneSession.faults g.N.LaneSession.clock) 1 in
    ends_on t c.args.context.now.lanes c.in-Some-step.end (party c.args.worker.now (g.T.Task.state c.args.task.now))
    (party c.loop.worker (g.T.Task.state c.loop.task)) (party c.step.new.worker (g.T.Task.state c.step.new.task))
    c.loop.invariant.got.on c.in-Some-step.ensures.ended

pub loop-preserved : goal.loop-preserved
loop-preserved g c =
    record {
      got =
          got_on g.N.LaneSession.names.script (party c.args.worker.now (g.T.Task.state c.args.task.now))
          (party c.loop.worker (g.T.Task.state c.loop.task)) (party c.step.new.worker (g.T.Task.state c.step.new.task))
          c.loop.invariant.got c.step.ensures.got;
      turns = c.step.ensures.turns;
    }

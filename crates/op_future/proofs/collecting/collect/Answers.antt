use Rattle.std.proofs.Common.{◌∙◌}
use Rattle.lane_turns.proofs.ScanLemmas.{on_same}
use Rattle.op_future.specs.Steps.{party}
use Rattle.op_future.proofs.StepLemmas.{got_none, got_on, got_one}
use Rattle.op_future.proofs.collecting.collect.Goals as goal

pub loop-op-init : goal.loop-op-init
loop-op-init g c =
    record {
      got = got_none g.N.LaneSession.names.script _ _ _ (on_same c.args.worker.now);
      turns = c.requires.turns;
    }

pub loop-op-preserved : goal.loop-op-preserved
loop-op-preserved g c =
    record {
      got =
          got_on g.N.LaneSession.names.script (party c.args.worker.now (g.T.Task.state c.args.task.now))
          (party c.loop-op.worker (g.T.Task.state c.loop-op.task))
          (party c.result.new.worker (g.T.Task.state c.got.new.self)) c.loop-op.invariant.got
          (got_one g.N.LaneSession.names.script c.loop-op.worker c.result.new.worker (g.T.Task.state c.loop-op.task)
          (g.T.Task.state c.got.new.self) c.in-Some-result.receipt c.in-Some-result.ensures.on
          c.in-Some-result.ensures.receipt c.got.ensures.receipts c.got.ensures.left);
      turns = record {
        seat = c.loop-op.invariant.turns.seat;
        is = c.result.ensures.turns ∙ c.loop-op.invariant.turns.is;
        fits = c.loop-op.invariant.turns.fits;
      };
    }

pub returns-in-None-clause-got : goal.returns-in-None-clause-got
returns-in-None-clause-got g c =
    got_on g.N.LaneSession.names.script (party c.args.worker.now (g.T.Task.state c.args.task.now))
    (party c.loop-op.worker (g.T.Task.state c.loop-op.task))
    (party c.result.new.worker (g.T.Task.state c.loop-op.task)) c.loop-op.invariant.got
    (got_none g.N.LaneSession.names.script c.loop-op.worker c.result.new.worker (g.T.Task.state c.loop-op.task)
    c.in-None.ensures.on)

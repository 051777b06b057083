use Rattle.lane_turns.specs.Attempts.{IsSeated}
use Rattle.op_future.specs.Steps.{HasGot, party}
use Rattle.op_future.proofs.collecting.collect.Given as goal

abbrev pub invariant-loop-op : goal.invariant-loop-op
invariant-loop-op g l =
    record {
      got : HasGot g.N.LaneSession.names.script (party l.fn.worker (g.T.Task.state l.fn.task))
          (party l.worker (g.T.Task.state l.task));
      turns : IsSeated l.context l.worker;
    }

abbrev pub decreases-loop-op : goal.decreases-loop-op
decreases-loop-op g l = (g.T.Task.state l.task).left

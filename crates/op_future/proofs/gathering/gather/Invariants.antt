use Rattle.op_future.specs.Gathering.{HasGotAtRest, RestsOn}
use Rattle.op_future.proofs.gathering.gather.Given as goal

abbrev pub invariant-loop-op : goal.invariant-loop-op
invariant-loop-op g l =
    record {
      got : HasGotAtRest g.N.LaneSession.names.script l.rest (g.T.Task.state l.fn.task) (g.T.Task.state l.task);
      stays : RestsOn g.N.LaneSession.names.script l.fn.rest l.rest;
    }

abbrev pub decreases-loop-op : goal.decreases-loop-op
decreases-loop-op g l = (g.T.Task.state l.task).left

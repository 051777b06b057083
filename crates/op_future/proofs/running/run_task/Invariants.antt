use Rattle.lane_turns.specs.Attempts.{IsSeated}
use Rattle.op_future.specs.Steps.{HasGot, party}
use Rattle.op_future.proofs.running.run_task.Given as goal

abbrev pub invariant-loop : goal.invariant-loop
invariant-loop g l =
    record {
      got : HasGot g.N.LaneSession.names.script (party l.fn.worker (g.T.Task.state l.fn.task))
          (party l.worker (g.T.Task.state l.task));
      turns : IsSeated l.context l.worker;
    }

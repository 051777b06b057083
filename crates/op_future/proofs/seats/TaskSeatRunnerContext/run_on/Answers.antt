use Rattle.op_future.specs.Steps.{party}
use Rattle.op_future.proofs.StepLemmas.{got_none, got_on}
use Rattle.op_future.proofs.seats.TaskSeatRunnerContext.run_on.Goals as goal

pub returns : goal.returns
returns g c =
    let script = g.N.LaneSession.names.script in
    let task = g.T.Task.state c.run_task.new.task in
    record {
      ran = record {
        got =
            got_on script (party c.args.self.now.worker (g.T.Task.state c.args.self.now.task))
            (party c.run_task.new.worker task) (party c.run.new.worker task) c.run_task.ensures.got
            (got_none script c.run_task.new.worker c.run.new.worker task c.run.ensures.on);
        seated = c.run.ensures.turns;
      };
    }

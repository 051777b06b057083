use Rattle.std.proofs.Common.{◌≡◌}
use Rattle.std.specs.Prelude.{vec_capacity}
use Rattle.op_future.specs.Gathering.{RestsOn}
use Rattle.op_future.proofs.GatheredLemmas.{AreGatheredTo}
use Rattle.op_future.proofs.gathering.gather_each.Given as goal

abbrev pub invariant-loop-task : goal.invariant-loop-task
invariant-loop-task g l = record {
  gathered : AreGatheredTo g.T.Task.state g.N.LaneSession.names.script l.task-index l.rest l.initial.tasks l.tasks
      l.ends.items;
  stays : RestsOn g.N.LaneSession.names.script l.fn.rest l.rest;
  capacity : vec_capacity l.ends ≡ vec_capacity l.fn.ends;
}

use Rattle.std.proofs.Common.{◌≡◌, ◌<◌, ◌∙◌, Some, arith, get_or, length, refl}
use Rattle.std.specs.Prelude.{slice_get}
use Rattle.std.proofs.lemmas.Option.{slice_get-get_or}
use Rattle.op_future.proofs.GatheredLemmas.{all_gathered, more_gathered, none_gathered}
use Rattle.op_future.proofs.RestLemmas.{rests_on, rests_still}
use Rattle.op_future.proofs.gathering.gather_each.Goals as goal

pub loop-task-init : goal.loop-task-init
loop-task-init g c =
    record {
      gathered =
          none_gathered g.T.Task.state g.N.LaneSession.names.script c.args.rest.now c.args.tasks.now c.args.ends.items
          c.requires.room.none;
      stays = rests_still g.N.LaneSession.names.script c.args.rest.now;
      capacity = refl;
    }

pub push_reserved-requires : goal.push_reserved-requires
push_reserved-requires g c =
    let count = c.loop-task.invariant.gathered.count in
    let size = c.loop-task.invariant.gathered.size in
    omega (
      arith,
      c.loop-task-test.true,
      count,
      size,
      c.requires.room.enough,
      c.loop-task.invariant.capacity,
      c.loop-task.auto.tasks,
      c.loop-task.ends.ok,
    )

pub loop-task-preserved : goal.loop-task-preserved
loop-task-preserved g c =
    let i = c.loop-task.task-index in
    let less : i < length c.loop-task.tasks = omega (arith, c.loop-task-test.true, c.loop-task.auto.tasks) in
    let one = get_or c.loop-task.tasks i c.task-item.result in
    let at : slice_get c.loop-task.tasks i ≡ Some one = slice_get-get_or c.loop-task.tasks i c.task-item.result less in
    record {
      gathered =
          more_gathered g.T.Task.state g.N.LaneSession.names.script c.loop-task.rest c.gather.new.rest c.args.tasks.now
          c.loop-task.tasks c.loop-task.ends.items c.push_reserved.new.self.items i one c.gather.new.task c.gather.result
          at c.gather.ensures.stays c.gather.ensures.got c.gather.ensures.ended c.push_reserved.ensures.items
          c.loop-task.invariant.gathered;
      stays =
          rests_on g.N.LaneSession.names.script c.args.rest.now c.loop-task.rest c.gather.new.rest
          c.loop-task.invariant.stays c.gather.ensures.stays;
      capacity = c.push_reserved.ensures.capacity ∙ c.loop-task.invariant.capacity;
    }

pub returns-clause-gathered : goal.returns-clause-gathered
returns-clause-gathered g c =
    all_gathered g.T.Task.state g.N.LaneSession.names.script c.loop-task.rest c.args.tasks.now c.loop-task.tasks
    c.loop-task.ends.items c.loop-task.task-index (omega (arith, c.loop-task-test.false, c.loop-task.auto.tasks))
    c.loop-task.invariant.gathered

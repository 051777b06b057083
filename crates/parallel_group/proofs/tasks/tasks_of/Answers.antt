use Rattle.std.proofs.Common.{List, ap, ◌∙◌, arith}
use Rattle.std.specs.Prelude.{slice_get}
use Rattle.parallel_group.specs.Collecting.{Collecting, none_found}
use Rattle.parallel_group.proofs.TaskLemmas.{first_stays}
use Rattle.parallel_group.proofs.tasks.tasks_of.Goals as goal

pub loop-preserved : goal.loop-preserved
loop-preserved g c = record {
  count = omega (arith, c.push_reserved-in-loop.ensures.len);
  room = omega (arith, c.push_reserved-in-loop.ensures.capacity);
  first =
      ap (λ (all : List Collecting). slice_get all 0) c.push_reserved-in-loop.ensures.items
      ∙ first_stays c.loop.tasks.items c.of_none.result (none_found g.N.GroupOps.ops) c.loop.invariant.first;
}

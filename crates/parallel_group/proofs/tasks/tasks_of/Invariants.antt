use Rattle.std.proofs.Common.{◌≡◌, ◌≤◌, Some, vec_len, vec_capacity}
use Rattle.std.specs.Prelude.{slice_get}
use Rattle.parallel_group.specs.Collecting.{none_found}
use Rattle.parallel_group.proofs.tasks.tasks_of.Given as goal

abbrev pub invariant-loop : goal.invariant-loop
invariant-loop g l = record {
  count : vec_len l.tasks ≡ l.counter;
  room : l.workers ≤ vec_capacity l.tasks;
  first : slice_get l.tasks.items 0 ≡ Some (none_found g.N.GroupOps.ops);
}

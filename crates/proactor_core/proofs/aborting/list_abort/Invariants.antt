use Rattle.std.proofs.Common.{◌≡◌, ◌+◌, ◌≤◌, ◌++◌, filter, length, map}
use Rattle.proactor_core.specs.Aborting.{abort_of_pending, is_pending_op}
use Rattle.proactor_core.proofs.aborting.list_abort.Given as goal

abbrev pub invariant-loop-pending : goal.invariant-loop-pending
invariant-loop-pending l = record {
  coming : l.due.coming
      ≡ l.initial.due.coming
      ++ map abort_of_pending (filter (is_pending_op l.op) (map (λ pending. pending.now) l.yielded));
  room : l.due.spare + length l.due.coming ≡ l.initial.due.spare + length l.initial.due.coming;
  count : l.initial.due.spare ≤ l.due.spare + length l.yielded;
}

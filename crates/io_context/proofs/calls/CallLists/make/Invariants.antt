use Rattle.std.proofs.Common.{◌≡◌, ◌≤◌}
use Rattle.std.specs.Vec.{vec_capacity, vec_len}
use Rattle.io_context.proofs.calls.CallLists.make.Given as goal

abbrev pub invariant-lists : goal.invariant-lists
invariant-lists g l = (vec_len l.lists ≡ l.counter) × (64 ≤ vec_capacity l.lists)

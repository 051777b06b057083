use Rattle.std.proofs.Common.{◌≤◌}
use Rattle.std.specs.VecDeque.{deque_capacity}
use Rattle.io_names.proofs.FreeLemmas.{AreFirst}
use Rattle.io_names.proofs.table.NameTable.make.Given as goal

abbrev pub invariant-loop-at : goal.invariant-loop-at
invariant-loop-at l = AreFirst l.at l.free.items × (l.limit ≤ deque_capacity l.free)

use Rattle.std.proofs.Common.{◌≡◌, ◌+◌, ◌≤◌, ◌++◌, length}
use Rattle.std.specs.Prelude.{vec_capacity, vec_len}
use Rattle.std.specs.VecDeque.{deque_capacity, deque_len}
use Rattle.io_strands.proofs.strand.move_all.Given as goal

abbrev pub invariant-loop-one : goal.invariant-loop-one
invariant-loop-one g l = record {
  moved : l.to.items ++ l.from.items ≡ l.initial.to.items ++ l.initial.from.items;
  room : vec_len l.to + length l.from.items ≤ vec_capacity l.to;
  same : vec_capacity l.to ≡ vec_capacity l.initial.to;
  kept : deque_capacity l.from ≡ deque_capacity l.initial.from;
}

abbrev pub decreases-loop-one : goal.decreases-loop-one
decreases-loop-one g l = deque_len l.from

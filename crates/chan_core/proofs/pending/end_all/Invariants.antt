use Rattle.std.proofs.Common.{◌≡◌, ◌≤◌, ◌+◌, ◌++◌, map, deque_capacity, deque_len}
use Rattle.chan_core.specs.Pending.{ends_with}
use Rattle.chan_core.proofs.pending.end_all.Given as goal

abbrev pub invariant-loop-pending : goal.invariant-loop-pending
invariant-loop-pending g l = record {
  due : l.due.items ++ map (ends_with l.code) l.queue.items
      ≡ l.initial.due.items ++ map (ends_with l.code) l.initial.queue.items;
  room : deque_len l.due + deque_len l.queue ≤ deque_capacity l.due;
  capacity : deque_capacity l.queue ≡ deque_capacity l.initial.queue;
  due_capacity : deque_capacity l.due ≡ deque_capacity l.initial.due;
}

abbrev pub decreases-loop-pending : goal.decreases-loop-pending
decreases-loop-pending g l = deque_len l.queue

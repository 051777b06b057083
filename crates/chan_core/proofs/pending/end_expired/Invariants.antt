use Rattle.std.proofs.Common.{◌≡◌, ◌≤◌, ◌+◌, ◌++◌, filter, map, take, deque_capacity, deque_len}
use Rattle.chan_core.specs.declared.done.ChanCode.TheVariants as chan_code
use Rattle.chan_core.specs.Pending.{ends_with, has_deadline}
use Rattle.chan_core.proofs.pending.end_expired.Given as goal

abbrev pub invariant-loop-at : goal.invariant-loop-at
invariant-loop-at g l = record {
  due : l.due.items
      ≡ l.initial.due.items
      ++ map (ends_with chan_code.Cancelled) (filter (has_deadline l.wait) (take l.at l.queue.items));
  room : deque_len l.due ≤ deque_len l.initial.due + l.at;
  due_capacity : deque_capacity l.due ≡ deque_capacity l.initial.due;
}

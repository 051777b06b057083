use Rattle.std.proofs.Common.{◌≡◌, ◌+◌, ◌≤◌, ◌++◌, length, map, vec_len, vec_capacity}
use Rattle.history_book.specs.Queues.{aborts_of, is_queued}
use Rattle.history_book.proofs.queues.list_abort.Given as goal

abbrev pub invariant-loop-queued : goal.invariant-loop-queued
invariant-loop-queued l = record {
  due : l.due.items ≡ l.initial.due.items ++ aborts_of (is_queued l.op) (map (λ queued. queued.now) l.yielded);
  room : vec_capacity l.due ≡ vec_capacity l.initial.due;
  count : vec_len l.due ≤ vec_len l.initial.due + length l.yielded;
}

use Rattle.std.proofs.Common.{◌≡◌, ℕ, ◌+◌, ◌≤◌, ◌++◌, map, vec_len, vec_capacity}
use Rattle.std.specs.VecDeque.{deque_capacity, deque_len}
use Rattle.stream_rules.specs.Queue.{asked}
use Rattle.stream_rules.specs.Serving.{Reading, Writing}
use Rattle.history_rules.specs.Performing.{all_of_stream}
use Rattle.history_book.proofs.queues.abort_all.Given as goal

abbrev pub invariant-loop-first : goal.invariant-loop-first
invariant-loop-first l = record {
  due : (f : ℕ → Reading) (g : ℕ → Writing) →
      l.due.items ++ all_of_stream (map (asked f) l.reads.items) (map (asked g) l.writes.items)
      ≡ l.initial.due.items
      ++ all_of_stream (map (asked f) l.initial.reads.items) (map (asked g) l.initial.writes.items);
  room : vec_len l.due + deque_len l.reads + deque_len l.writes ≤ vec_capacity l.due;
  due_room : vec_capacity l.due ≡ vec_capacity l.initial.due;
  reads_room : deque_capacity l.reads ≡ deque_capacity l.initial.reads;
  writes_room : deque_capacity l.writes ≡ deque_capacity l.initial.writes;
}

abbrev pub decreases-loop-first : goal.decreases-loop-first
decreases-loop-first l = deque_len l.reads + deque_len l.writes

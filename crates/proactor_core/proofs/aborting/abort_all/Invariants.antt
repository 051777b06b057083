use Rattle.std.proofs.Common.{◌≡◌, ◌+◌, ◌≤◌, ◌++◌, length, map}
use Rattle.std.specs.VecDeque.{deque_capacity, deque_len}
use Rattle.history_rules.specs.Performing.{all_of_stream}
use Rattle.proactor_core.specs.Pending.{pending_read, pending_write}
use Rattle.proactor_core.proofs.aborting.abort_all.Given as goal

abbrev pub invariant-loop-first : goal.invariant-loop-first
invariant-loop-first l = record {
  coming : l.due.coming ++ all_of_stream (map pending_read l.reads.items) (map pending_write l.writes.items)
      ≡ l.initial.due.coming
      ++ all_of_stream (map pending_read l.initial.reads.items) (map pending_write l.initial.writes.items);
  room : l.due.spare + length l.due.coming ≡ l.initial.due.spare + length l.initial.due.coming;
  count : deque_len l.reads + deque_len l.writes ≤ l.due.spare;
  reads_room : deque_capacity l.reads ≡ deque_capacity l.initial.reads;
  writes_room : deque_capacity l.writes ≡ deque_capacity l.initial.writes;
}

abbrev pub decreases-loop-first : goal.decreases-loop-first
decreases-loop-first l = deque_len l.reads + deque_len l.writes

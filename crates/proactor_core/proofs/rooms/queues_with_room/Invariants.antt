use Rattle.std.proofs.Common.{◌≡◌, [], map, replicate, take}
use Rattle.std.specs.VecDeque.{deque_capacity, deque_items}
use Rattle.proactor_core.proofs.rooms.queues_with_room.Given as goal

abbrev pub invariant-loop-room : goal.invariant-loop-room
invariant-loop-room l = record {
  empty : map deque_items l.queues.items ≡ replicate l.room-index [];
  rooms : map deque_capacity l.queues.items ≡ take l.room-index l.rooms;
}

use Rattle.lane_turns.proofs.LogRoomLemmas.{AreRooms}
use Rattle.lane_turns.proofs.log_rooms.lane_rooms.Given as goal

abbrev pub invariant-loop-op : goal.invariant-loop-op
invariant-loop-op l = AreRooms l.script l.op l.rooms.items

use Rattle.std.proofs.Common.{◌≡◌, ◌≤◌, [], get_or, length}
use Rattle.std.specs.Prelude.{vec_capacity}
use Rattle.lane_turns.specs.Rooms.{EachAt}
use Rattle.lane_context.proofs.new_pens.new_logs.Given as goal

abbrev pub invariant-loop-room : goal.invariant-loop-room
invariant-loop-room l = record {
  size : length l.logs.items ≡ l.room-index;
  each : EachAt (λ k log. (log.items ≡ []) × (get_or l.rooms k 0 ≤ vec_capacity log)) l.logs.items;
  room : length l.rooms ≤ vec_capacity l.logs;
}

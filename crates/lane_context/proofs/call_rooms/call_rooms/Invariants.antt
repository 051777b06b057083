use Rattle.std.proofs.Common.{◌≡◌, ◌≤◌, Some, length}
use Rattle.std.specs.Prelude.{vec_capacity}
use Rattle.lane_turns.specs.Attempts.{IsCallRoom}
use Rattle.lane_turns.specs.Rooms.{EachAt}
use Rattle.lane_context.proofs.call_rooms.call_rooms.Given as goal

abbrev pub invariant-loop : goal.invariant-loop
invariant-loop l = record {
  size : length l.rooms.items ≡ l.counter;
  each : EachAt (λ k room. IsCallRoom l.script (Some room)) l.rooms.items;
  room : l.workers ≤ vec_capacity l.rooms;
}

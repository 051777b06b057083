use Rattle.std.proofs.Common.{◌≡◌, ◌<◌, ◌≤◌, ℕ, length, get_or}
use Rattle.std.specs.List.{All}
use Rattle.proactor_core.specs.Rooms.{acts_below}
use Rattle.proactor_core.specs.StreamRooms.{is_on_side}
use Rattle.proactor_core.proofs.stream_rooms.operation_counts.Given as goal

abbrev pub invariant-loop-a : goal.invariant-loop-a
invariant-loop-a l = record {
  streams : length l.counts.items ≡ l.script.world.streams;
  counts : (stream : ℕ) → stream < length l.counts.items →
      get_or l.counts.items stream 0 ≡ acts_below (is_on_side l.side stream) l.script l.a;
  few : All (λ count. count ≤ l.a) l.counts.items;
}

use Rattle.std.proofs.Common.{◌≡◌, ◌≤◌, length}
use Rattle.std.specs.Prelude.{vec_capacity}
use Rattle.lane_turns.specs.Benches.{IsRow}
use Rattle.lane_turns.specs.Gathering.{with_turns_below}
use Rattle.lane_turns.specs.LaneOf.{seat_of}
use Rattle.lane_context.proofs.context.Context.give_turns.Given as goal

abbrev pub invariant-loop-value : goal.invariant-loop-value
invariant-loop-value g l =
    record {
      seat : l.seat ≡ with_turns_below (length l.bench.items) l.fn.seat;
      row : IsRow seat_of 0 (length l.bench.items) l.bench.items;
      room : vec_capacity l.bench ≡ vec_capacity l.fn.bench;
    }

abbrev pub decreases-loop-value : goal.decreases-loop-value
decreases-loop-value g l = goal.left-loop-value g l

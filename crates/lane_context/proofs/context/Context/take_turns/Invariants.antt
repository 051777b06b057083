use Rattle.std.proofs.Common.{◌≡◌}
use Rattle.std.specs.Prelude.{vec_capacity}
use Rattle.lane_turns.specs.Benches.{IsRow}
use Rattle.lane_turns.specs.Gathering.{with_turns_below}
use Rattle.lane_turns.specs.LaneOf.{seat_of}
use Rattle.lane_context.proofs.context.Context.take_turns.Given as goal

abbrev pub invariant-loop-lane : goal.invariant-loop-lane
invariant-loop-lane g l =
    record {
      seat : l.seat ≡ with_turns_below l.lane l.fn.seat;
      row : IsRow seat_of 0 l.lane l.bench.items;
      room : vec_capacity l.bench ≡ vec_capacity l.fn.bench;
    }

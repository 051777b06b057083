use Rattle.std.proofs.Common.{◌≡◌}
use Rattle.lane_clock.specs.Seats.{own}
use Rattle.lane_clock.specs.Steps.{step_count, place_count}
use Rattle.asio_speed.proofs.cells.place_all.Given as goal

abbrev pub invariant-loop : goal.invariant-loop
invariant-loop l = record {
  same : l.seat.clock ≡ l.clock;
  placed : step_count place_count (own l.seat) ≡ l.counter;
}

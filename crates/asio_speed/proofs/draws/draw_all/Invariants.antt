use Rattle.std.proofs.Common.{◌≡◌}
use Rattle.lane_clock.specs.Seats.{own}
use Rattle.lane_clock.specs.Steps.{step_count, draw_count}
use Rattle.asio_speed.proofs.draws.draw_all.Given as goal

abbrev pub invariant-loop : goal.invariant-loop
invariant-loop l = record {
  same : l.seat.clock ≡ l.clock;
  drawn : step_count draw_count (own l.seat) ≡ l.counter;
}

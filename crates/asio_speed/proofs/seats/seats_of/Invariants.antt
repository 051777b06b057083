use Rattle.std.proofs.Common.{◌≡◌, [], All}
use Rattle.lane_clock.specs.Seats.{own}
use Rattle.asio_speed.proofs.seats.seats_of.Given as goal

abbrev pub invariant-loop : goal.invariant-loop
invariant-loop l = record {
  same : l.list.clock ≡ l.initial.list.clock;
  new : All (λ seat. (seat.clock ≡ l.initial.list.clock) × (own seat ≡ [])) l.seats.items;
}

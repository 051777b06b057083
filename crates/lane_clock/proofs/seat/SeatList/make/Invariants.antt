use Rattle.std.proofs.Common.{◌≡◌, ◌-◌, ◌≤◌, [], reverse}
use Rattle.lane_clock.specs.Seats.{new_clock_seats}
use Rattle.lane_clock.proofs.SeatLemmas.{giver_at}
use Rattle.lane_clock.proofs.seat.SeatList.make.Given as goal

abbrev pub invariant-loop-left : goal.invariant-loop-left
invariant-loop-left l = record {
  within : l.left ≤ l.seats;
  table : l.giver.table_id ≡ l.table.shared.table_id;
  giver : l.giver.me ≡ (giver_at l.table.shared.key l.left, []);
  list : reverse l.list.items
      ≡ new_clock_seats record { table = l.table.shared.table_id; plan = l.table.shared.key } l.left (l.seats - l.left);
}

abbrev pub decreases-loop-left : goal.decreases-loop-left
decreases-loop-left l = l.left

use Rattle.std.proofs.Common.{◌≡◌, ◌<◌, [], All}
use Rattle.turn_table.specs.Seated.{IsSeatOf}
use Rattle.asio_speed.proofs.turns.workers_of.Given as goal

abbrev pub invariant-loop-i : goal.invariant-loop-i
invariant-loop-i l = record {
  left : All (λ seat. IsSeatOf l.table seat × (seat.turns ≡ [])) l.seats;
  made : All (λ worker. IsSeatOf l.table worker.seat × (worker.seat.turns ≡ []) × (worker.lane < l.table.lanes))
      l.workers.items;
}

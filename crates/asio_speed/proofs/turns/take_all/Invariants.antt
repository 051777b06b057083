use Rattle.std.proofs.Common.{◌≡◌, []}
use Rattle.turn_table.specs.Seated.{IsSeatOf}
use Rattle.asio_speed.proofs.turns.take_all.Given as goal

abbrev pub invariant-loop : goal.invariant-loop
invariant-loop l = IsSeatOf l.table l.seat × (l.seat.turns ≡ [])

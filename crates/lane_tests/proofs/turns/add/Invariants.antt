use Rattle.std.proofs.Common.{◌≡◌, []}
use Rattle.turn_table.specs.Seated.{IsSeatOf}
use Rattle.lane_tests.proofs.turns.add.Given as goal

abbrev pub invariant-loop : goal.invariant-loop
invariant-loop g l = IsSeatOf l.table l.seat × (l.seat.turns ≡ []) × (l.seat.numbers ≡ l.initial.seat.numbers)

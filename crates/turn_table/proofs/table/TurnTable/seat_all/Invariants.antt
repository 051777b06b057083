use Rattle.std.proofs.Common.{◌≡◌, ◌+◌, ◌-◌, ◌<◌, ◌≤◌, map, reverse, vec_len, vec_capacity}
use Rattle.turn_table.specs.Numbers.{run_from}
use Rattle.turn_table.specs.Seated.{first_seat, new_turn_seat}
use Rattle.turn_table.proofs.table.TurnTable.seat_all.Given as goal

abbrev pub invariant-loop-left : goal.invariant-loop-left
invariant-loop-left g l = (l.whole ≡ first_seat l.self l.left) × (0 < l.left) × (l.left ≤ l.count)
    × (reverse l.list.items ≡ map (new_turn_seat l.self) (run_from l.left (l.count - l.left)))
    × (vec_len l.list + l.left ≡ l.count) × (l.count ≤ vec_capacity l.list)

abbrev pub decreases-loop-left : goal.decreases-loop-left
decreases-loop-left g l = l.left - 1

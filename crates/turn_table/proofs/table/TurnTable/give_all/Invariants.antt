use Rattle.std.proofs.Common.{◌≡◌, ◌≤◌, length}
use Rattle.turn_table.specs.Laid.{AreAtHome}
use Rattle.turn_table.proofs.SeatLemmas.{holding}
use Rattle.turn_table.proofs.table.TurnTable.give_all.Given as goal

abbrev pub invariant-loop-value : goal.invariant-loop-value
invariant-loop-value g l =
    (l.seat ≡ holding l.self (length l.rest.items))
    × (length l.rest.items ≤ l.self.lanes) × AreAtHome g.T.Home.home_of l.rest.items

abbrev pub decreases-loop-value : goal.decreases-loop-value
decreases-loop-value g l = length l.rest.items

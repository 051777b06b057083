use Rattle.std.proofs.Common.{◌≡◌, ◌-◌, ◌<◌, ap, subst, arith}
use Rattle.std.specs.Mem.Slots.{slots_items}
use Rattle.turn_table.specs.Laid.{IsVacant}
use Rattle.turn_table.specs.Numbers.{Has}
use Rattle.turn_table.specs.Seated.{Lanes}
use Rattle.turn_table.proofs.SeatLemmas.{sat}
use Rattle.turn_table.proofs.TableLemmas.{closes_bare}
use Rattle.turn_table.proofs.table.TurnTable.close_held.Goals as goal

pub let_go-requires-clause-vacant : goal.let_go-requires-clause-vacant
let_go-requires-clause-vacant g c =
    let now = sat _ _ _ _ c.seat.invariant c.seat.view_is c.into_seat.ensures.2 in
    let key = c.self.inside.table.shared.key in
    let at : key.lanes ≡ c.args.self.lanes = ap (λ (l : Lanes). l.lanes) c.self.view_is in
    let lanes : key.lanes ≡ c.slot_count-lanes.result - 1 =
    let a = c.self.invariant.1 in let b = c.slot_count-lanes.ensures in omega arith in
    subst (λ n. IsVacant n (slots_items c.close_with.result.slots)) lanes
    (closes_bare g.T.Home.home_of key c.into_seat.result.id c.into_seat.result.me.0 _ _ c.close_with.ensures.values.2
    (λ n l. subst (λ xs. Has xs n) now.turns (c.requires.turns n (subst (λ m. n < m) at l))) now.hand)

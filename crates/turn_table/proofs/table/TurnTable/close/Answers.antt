use Rattle.std.proofs.Common.{◌≡◌, ◌-◌, ◌<◌, sym, ap, ◌∙◌, subst, arith}
use Rattle.std.specs.Mem.Slots.{slots_items}
use Rattle.turn_table.specs.Laid.{IsWhole}
use Rattle.turn_table.specs.Numbers.{Has}
use Rattle.turn_table.specs.Seated.{Lanes}
use Rattle.turn_table.proofs.SeatLemmas.{sat}
use Rattle.turn_table.proofs.TableLemmas.{closes}
use Rattle.turn_table.proofs.table.TurnTable.close.Goals as goal

pub take_out-requires-clause-whole : goal.take_out-requires-clause-whole
take_out-requires-clause-whole g c =
    let now = sat _ _ _ _ c.seat.invariant c.seat.view_is c.into_seat.ensures.2 in
    let key = c.self.inside.table.shared.key in
    let seats : key.seats ≡ c.args.seat.seats = ap (λ (l : Lanes). l.seats) c.self.view_is ∙ sym c.requires.seat.1 in
    let lanes : key.lanes ≡ c.slot_count-lanes.result - 1 =
    let a = c.self.invariant.1 in let b = c.slot_count-lanes.ensures in omega arith in
    subst (λ n. IsWhole g.T.Home.home_of n (slots_items c.close_with.result.slots)) lanes
    (closes g.T.Home.home_of key c.into_seat.result.id c.into_seat.result.me.0 _ _ c.close_with.ensures.values.2
    (λ n l. subst (λ xs. Has xs n) now.numbers (c.requires.all n (subst (λ m. n < m) seats l))) (sym now.turns ∙ c.requires.no_turn))

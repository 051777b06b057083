use Rattle.std.proofs.Common.{rules, ◌∙◌, sym}
use Rattle.turn_table.proofs.SeatLemmas.{sat}
use Rattle.turn_table.proofs.ViewLemmas.{gathers}
use Rattle.turn_table.proofs.table.TurnTable.gather.Goals as goal

pub join_seat-requires : goal.join_seat-requires
join_seat-requires g c =
    let now = sat _ _ _ _ c.seat.invariant c.seat.view_is c.sit-at.ensures.view in
    let other = sat _ _ _ _ c.other.invariant c.other.view_is c.into_seat.ensures.2 in (
      search rules,
      search rules,
      search rules,
      search rules,
      gathers g.T.Home.home_of c.self.inside.table.shared.key _ _ _ _ now.number
          (sym other.turns ∙ c.requires.no_turn) other.hand,
    )

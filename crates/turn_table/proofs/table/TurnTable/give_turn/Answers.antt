use Rattle.std.proofs.Common.{rules, ◌≡◌, ◌∷◌, sym, ap, ◌∙◌, subst}
use Rattle.atomic_table.specs.Table.{rest}
use Rattle.turn_table.specs.declared.place.TablePlace.TheVariants.{Value}
use Rattle.turn_table.specs.declared.place.TurnView.{TurnView}
use Rattle.turn_table.specs.Numbers.{Has}
use Rattle.turn_table.specs.TurnSteps.{after_reach}
use Rattle.turn_table.proofs.SeatLemmas.{sat}
use Rattle.turn_table.proofs.TurnLemmas.{reaches, gives_back}
use Rattle.turn_table.proofs.table.TurnTable.give_turn.Goals as goal

pub load-requires : goal.load-requires
load-requires g c = let now = sat _ _ _ _ c.seat.invariant c.seat.view_is c.sit-at.ensures.view in (
  search rules,
  search rules,
  reaches g.T.Home.home_of c.self.inside.table.shared.key _ _ _ _ now.hand
      (subst (λ xs. Has xs c.args.lane) now.turns c.requires.turn) now.number c.sit-at.ensures.slots,
)

pub store-requires : goal.store-requires
store-requires g c =
    let was = sat _ _ _ _ c.seat.invariant c.seat.view_is c.sit-at.ensures.view in
    let took = c.load.ensures.2 in let now = c.exchange-found.ensures.3 in
    let view : c.exchange-found.new.seat.me.0 ≡ after_reach c.args.lane c.sit-at.result.me.0 =
    ap (λ m. m.0) now ∙ ap (λ m. m.0) took in (
      search rules,
      search rules,
      gives_back g.T.Home.home_of c.self.inside.table.shared.key _ _ _ _ c.args.value
          (ap (λ (v : TurnView). v.hand) view)
          (subst (λ (v : TurnView). Has v.turns c.args.lane) (sym view)
          (subst (λ xs. Has xs c.args.lane) was.turns c.requires.turn))
          (was.number.0, subst (λ (v : TurnView). Has v.numbers was.number.0) (sym view) was.number.1)
          (ap (λ m. m.1) now ∙ ap (λ m. (c.args.lane, Value c.args.value) ∷ rest m.1) took) c.requires.home,
    )

use Rattle.std.proofs.Common.{rules, ◌≡◌, ◌<◌, ◌∷◌, sym, ap, ◌∙◌, subst}
use Rattle.atomic_table.specs.Table.{rest}
use Rattle.turn_table.specs.declared.place.TablePlace.TheVariants.{Empty, Value}
use Rattle.turn_table.specs.declared.place.TurnView.{TurnView}
use Rattle.turn_table.specs.Numbers.{Has}
use Rattle.turn_table.specs.Seated.{Lanes}
use Rattle.turn_table.specs.TurnSteps.{after_take}
use Rattle.turn_table.proofs.NumberLemmas.{has_head}
use Rattle.turn_table.proofs.SeatLemmas.{sat}
use Rattle.turn_table.proofs.TurnLemmas.{tries, rests}
use Rattle.turn_table.proofs.table.TurnTable.take_turn.Goals as goal

pub compare_exchange-requires : goal.compare_exchange-requires
compare_exchange-requires g c =
    let now = sat _ _ _ _ c.seat.invariant c.seat.view_is c.sit-at.ensures.view in
    let lanes = ap (λ (l : Lanes). l.lanes) c.self.view_is in let seats = ap (λ (l : Lanes). l.seats) c.self.view_is in (
      search rules,
      search rules,
      tries g.T.Home.home_of c.self.inside.table.shared.key _ _ _ _
          (subst (λ n. c.args.lane < n) (sym lanes) c.requires.lane) now.hand
          (sym now.seats ∙ (c.requires.seat.1 ∙ sym seats)) now.number,
    )

pub exchange-found-requires : goal.exchange-found-requires
exchange-found-requires g c =
    let took = c.compare_exchange.ensures.2.0 c.if-compare_exchange-ne0.false in let slots = ap (λ m. m.1) took.3 in
    (search rules, (Value took.0, slots ∙ ap (λ cs. (c.args.lane, Value took.0) ∷ rest cs) (sym slots)))

pub load-requires : goal.load-requires
load-requires g c =
    let was = sat _ _ _ _ c.seat.invariant c.seat.view_is c.sit-at.ensures.view in
    let took = c.compare_exchange.ensures.2.0 c.if-compare_exchange-ne0.false in let now = c.exchange-found.ensures.3 in
    let view : c.exchange-found.new.seat.me.0 ≡ after_take c.args.lane c.sit-at.result.me.0 =
    ap (λ m. m.0) now ∙ ap (λ m. m.0) took.3 in (
      search rules,
      search rules,
      rests g.T.Home.home_of c.self.inside.table.shared.key _ _ _ _ (ap (λ (v : TurnView). v.hand) view)
          (subst (λ (v : TurnView). Has v.turns c.args.lane) (sym view)
          (has_head c.args.lane c.sit-at.result.me.0.turns))
          (was.number.0, subst (λ (v : TurnView). Has v.numbers was.number.0) (sym view) was.number.1)
          (ap (λ m. m.1) now
          ∙ ap (λ cs. (c.args.lane, Empty) ∷ cs) (ap (λ m. rest m.1) took.3 ∙ c.sit-at.ensures.slots)),
    )

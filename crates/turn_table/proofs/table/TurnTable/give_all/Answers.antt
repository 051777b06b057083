use Rattle.std.proofs.Common.{◌≡◌, ◌∷◌, [], suc, length, length-append, ap, ◌∙◌, arith}
use Rattle.turn_table.specs.Seated.{Seated}
use Rattle.turn_table.proofs.LaidLemmas.{front_home, last_home}
use Rattle.turn_table.proofs.SeatLemmas.{gave_last, has_last, holding}
use Rattle.turn_table.proofs.table.TurnTable.give_all.Goals as goal

pub give_turn-requires-clause-seat : goal.give_turn-requires-clause-seat
give_turn-requires-clause-seat g c =
    let is = c.loop-value.invariant.0 in (ap (λ (s : Seated). s.table) is, ap (λ (s : Seated). s.seats) is)

pub give_turn-requires-clause-lane : goal.give_turn-requires-clause-lane
give_turn-requires-clause-lane g c =
    let home = last_home g.T.Home.home_of _ c.pop.new.self.items c.in-Some.value c.in-Some.ensures.items
    c.loop-value.invariant.2 in
    omega (
      arith,
      home,
      c.lane-lane.ensures,
      ap length c.in-Some.ensures.items,
      length-append c.pop.new.self.items (c.in-Some.value ∷ []),
      c.loop-value.invariant.1,
    )

pub give_turn-requires-clause-turn : goal.give_turn-requires-clause-turn
give_turn-requires-clause-turn g c =
    let longer : length c.loop-value.rest.items ≡ suc (length c.pop.new.self.items) =
    omega (arith, ap length c.in-Some.ensures.items, length-append c.pop.new.self.items (c.in-Some.value ∷ [])) in
    has_last c.args.self.now c.loop-value.seat (length c.pop.new.self.items) c.lane-lane.result
    (c.loop-value.invariant.0 ∙ ap (holding c.args.self.now) longer)
    (c.lane-lane.ensures
    ∙ last_home g.T.Home.home_of _ c.pop.new.self.items c.in-Some.value c.in-Some.ensures.items
    c.loop-value.invariant.2)

pub loop-value-preserved : goal.loop-value-preserved
loop-value-preserved g c =
    let longer : length c.loop-value.rest.items ≡ suc (length c.pop.new.self.items) =
    omega (arith, ap length c.in-Some.ensures.items, length-append c.pop.new.self.items (c.in-Some.value ∷ [])) in (
      gave_last c.args.self.now c.loop-value.seat (length c.pop.new.self.items) c.lane-lane.result
          (c.loop-value.invariant.0 ∙ ap (holding c.args.self.now) longer)
          (c.lane-lane.ensures
          ∙ last_home g.T.Home.home_of _ c.pop.new.self.items c.in-Some.value c.in-Some.ensures.items
          c.loop-value.invariant.2)
          c.give_turn.new.seat c.give_turn.ensures,
      omega (arith, longer, c.loop-value.invariant.1),
      front_home g.T.Home.home_of _ c.pop.new.self.items c.in-Some.value c.in-Some.ensures.items
          c.loop-value.invariant.2,
    )

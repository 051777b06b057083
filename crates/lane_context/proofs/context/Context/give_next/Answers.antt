use Rattle.std.proofs.Common.{◌≡◌, ap, arith, subst, sym, ◌∙◌}
use Rattle.turn_table.specs.Seated.{HasTurn, without_turn}
use Rattle.lane_turns.specs.LaneValues.{terms}
use Rattle.lane_context.proofs.GatheringLemmas.{home_below, number_is_home}
use Rattle.lane_context.proofs.context.Context.give_next.Goals as goal

pub give_turn-requires-clause-lane : goal.give_turn-requires-clause-lane
give_turn-requires-clause-lane g c =
    let t =
    terms g.N.LaneSession.names g.H.CompletionHandler.marks g.X.Reactor.state g.X.Reactor.told g.X.Reactor.faults
    g.N.LaneSession.faults g.N.LaneSession.clock in
    let below = home_below t c.args.value c.is_one.ensures in
    omega (arith, below, c.lane-lane.ensures, c.self.invariant.lanes)

pub give_turn-requires-clause-turn : goal.give_turn-requires-clause-turn
give_turn-requires-clause-turn g c =
    let t =
    terms g.N.LaneSession.names g.H.CompletionHandler.marks g.X.Reactor.state g.X.Reactor.told g.X.Reactor.faults
    g.N.LaneSession.faults g.N.LaneSession.clock in
    subst (λ lane. HasTurn c.args.seat.now lane)
    (number_is_home t c.args.value c.is_one.ensures ∙ sym c.lane-lane.ensures) c.requires.turn

pub returns : goal.returns
returns g c =
    let t =
    terms g.N.LaneSession.names g.H.CompletionHandler.marks g.X.Reactor.state g.X.Reactor.told g.X.Reactor.faults
    g.N.LaneSession.faults g.N.LaneSession.clock in
    c.give_turn.ensures
    ∙ ap (λ lane. without_turn lane c.args.seat.now)
    (c.lane-lane.ensures ∙ sym (number_is_home t c.args.value c.is_one.ensures))

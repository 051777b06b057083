use Rattle.std.proofs.Common.{◌≡◌, ap, arith, subst, sym, ◌∙◌}
use Rattle.turn_table.specs.Seated.{Lanes}
use Rattle.lane_turns.specs.LaneValues.{terms}
use Rattle.lane_context.proofs.GatheringLemmas.{home_below}
use Rattle.lane_context.proofs.context.Context.give_kept.Goals as goal

pub give_turn-requires-clause-lane : goal.give_turn-requires-clause-lane
give_turn-requires-clause-lane g c =
    let t =
    terms g.N.LaneSession.names g.H.CompletionHandler.marks g.X.Reactor.state g.X.Reactor.told g.X.Reactor.faults
    g.N.LaneSession.faults g.N.LaneSession.clock in
    let below = home_below t c.in-Some.value c.is_one.ensures in
    omega (arith, below, c.lane-lane.ensures, c.self.invariant.lanes)

use Rattle.std.proofs.Common.{◌≤◌, ◌<◌, ap, subst, sym, ◌∙◌}
use Rattle.session_script.specs.Script.{ScriptModel}
use Rattle.lane_clock.specs.Steps.{most_draws}
use Rattle.lane_map.specs.LaneNumbers.{reactor_lane}
use Rattle.lane_map.proofs.NumberLemmas.{lane_count}
use Rattle.lane_turns.specs.Batons.{IsHandlerBaton, LaneView}
use Rattle.lane_turns.specs.Firsts.{first_lane}
use Rattle.lane_turns.specs.Rooms.{IsNewPen, lane_room}
use Rattle.lane_context.proofs.FirstLemmas.{baton_begins}
use Rattle.lane_context.proofs.first_seats.first_baton.Goals as goal

pub invariant_of-result : goal.invariant_of-result
invariant_of-result g c =
    let names = g.N.LaneSession.names in
    let clock = g.N.LaneSession.clock in
    let lane = c.args.state.lane in
    subst (λ (lane : LaneView).
    IsHandlerBaton names g.H.CompletionHandler.marks clock (record { lane = lane; hands = c.args.hands }))
    (sym
    (c.requires.first
    ∙ ap (λ (script : ScriptModel). first_lane script lane c.args.state.pen) c.requires.script))
    (baton_begins names g.H.CompletionHandler.marks clock lane c.args.state.pen c.args.hands
    (subst (λ (script : ScriptModel). IsNewPen clock lane (lane_room script lane) c.args.state.pen)
    c.requires.script c.requires.pen)
    c.requires.hands
    (subst (λ (script : ScriptModel). lane < reactor_lane script) c.requires.script c.requires.strand)
    (lane_count names.script)
    (subst (λ (script : ScriptModel). lane_room script lane ≤ most_draws) c.requires.script
    (c.rooms_fit.ensures.lanes lane)))

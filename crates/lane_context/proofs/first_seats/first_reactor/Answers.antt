use Rattle.std.proofs.Common.{◌≡◌, ◌≤◌, ap, subst, sym, ◌∙◌}
use Rattle.session_script.specs.Script.{ScriptModel}
use Rattle.reactor_turns.specs.Ahead.{most_turn_events}
use Rattle.lane_clock.specs.Steps.{most_draws}
use Rattle.lane_map.specs.LaneNumbers.{reactor_lane}
use Rattle.lane_map.proofs.NumberLemmas.{lane_count}
use Rattle.lane_turns.specs.Batons.{LaneView}
use Rattle.lane_turns.specs.Firsts.{first_lane}
use Rattle.lane_turns.specs.Rooms.{IsNewPen}
use Rattle.lane_turns.specs.Turning.{IsReactorBaton}
use Rattle.lane_context.proofs.FirstLemmas.{reactor_begins}
use Rattle.lane_context.proofs.first_seats.first_reactor.Goals as goal

pub invariant_of-result : goal.invariant_of-result
invariant_of-result g c =
    let names = g.N.LaneSession.names in
    let clock = g.N.LaneSession.clock in
    let lane = c.args.state.lane in
    subst (λ (lane : LaneView).
    IsReactorBaton names g.X.Reactor.state g.X.Reactor.told g.X.Reactor.faults g.N.LaneSession.faults clock
    (record { lane = lane; proactor = c.args.proactor }))
    (sym
    (c.requires.first
    ∙ ap (λ (script : ScriptModel). first_lane script lane c.args.state.pen) c.requires.script))
    (reactor_begins names g.X.Reactor.state g.X.Reactor.told g.X.Reactor.faults g.N.LaneSession.faults clock lane
    c.args.state.pen c.args.proactor c.turns_are_bounded.ensures
    (subst (λ (script : ScriptModel). IsNewPen clock lane (most_turn_events script) c.args.state.pen)
    c.requires.script c.requires.pen)
    (subst (λ (script : ScriptModel). lane ≡ reactor_lane script) c.requires.script c.requires.last)
    (lane_count names.script)
    (subst (λ (script : ScriptModel). most_turn_events script ≤ most_draws) c.requires.script
    c.rooms_fit.ensures.reactor)
    c.requires.started)

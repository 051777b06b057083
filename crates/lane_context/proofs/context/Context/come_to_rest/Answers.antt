use Rattle.std.proofs.Common.{◌≡◌, ap, length, subst, sym, ◌∙◌}
use Rattle.turn_table.specs.Laid.{AreAtHome}
use Rattle.lane_logs.specs.SeatNumbers.{lane_count}
use Rattle.lane_turns.specs.LaneValues.{home_of}
use Rattle.lane_turns.proofs.ContextEndLemmas.{lanes_counted, lanes_numbered, seats_numbered}
use Rattle.lane_context.proofs.GatheringLemmas.{stands_for_all}
use Rattle.lane_context.proofs.context.Context.come_to_rest.Goals as goal

pub close-requires-clause-all : goal.close-requires-clause-all
close-requires-clause-all g c = stands_for_all c.args.self c.args.seat c.requires.seat

pub bring_to_rest-requires-clause-batons : goal.bring_to_rest-requires-clause-batons
bring_to_rest-requires-clause-batons g c =
    let count : length c.into_vec-values.result.items ≡ lane_count g.N.LaneSession.names.script =
    ap length c.into_vec-values.ensures ∙ c.close.ensures.lanes ∙ c.self.invariant.lanes in
    lanes_counted g.N.LaneSession.names.script c.into_vec-values.result.items c.part_values-handlers.result.reactor
    c.part_values-handlers.result.handlers.items c.part_values-handlers.ensures count

pub bring_to_rest-requires-clause-numbers : goal.bring_to_rest-requires-clause-numbers
bring_to_rest-requires-clause-numbers g c =
    lanes_numbered g.N.LaneSession.names.script c.into_vec-values.result.items c.part_values-handlers.result.reactor
    c.part_values-handlers.result.handlers.items c.part_values-handlers.ensures
    (subst (λ values. AreAtHome home_of values) (sym c.into_vec-values.ensures) c.close.ensures.home)

pub bring_to_rest-requires-clause-work_numbers : goal.bring_to_rest-requires-clause-work_numbers
bring_to_rest-requires-clause-work_numbers g c =
    seats_numbered g.N.LaneSession.names.script c.args.workers.items c.seats_of.result.items c.requires.workers
    c.seats_of.ensures

use Rattle.std.proofs.Common.{◌++◌, ◌∷◌, [], Some, length, ap, subst, sym, arith, ◌∙◌}
use Rattle.lane_turns.specs.AllWorkers.{AreReady, clock_seat}
use Rattle.lane_turns.specs.Benches.{AreWorkers}
use Rattle.lane_turns.specs.LaneValues.{reactor}
use Rattle.lane_context.specs.SessionRooms.{AreFresh}
use Rattle.lane_turns.proofs.AllWorkersLemmas.{all_written}
use Rattle.lane_context.proofs.SettingOutLemmas.{fresh_standing, lanes_laid, rows_standing}
use Rattle.lane_context.proofs.session_room.SessionRoom.set_out.Goals as goal

pub seat_first-requires-clause-rows : goal.seat_first-requires-clause-rows
seat_first-requires-clause-rows g c =
    subst (λ all. AreWorkers clock_seat g.N.LaneSession.names.script all) (sym (c.as_mut_slice.ensures.value ∙ c.stand_by-all.ensures))
    (rows_standing g.N.LaneSession.names.script c.args.begun.workers.items c.requires.workers)

pub seat_first-requires-clause-fresh : goal.seat_first-requires-clause-fresh
seat_first-requires-clause-fresh g c =
    subst AreFresh (sym (c.as_mut_slice.ensures.value ∙ c.stand_by-all.ensures))
    (fresh_standing c.args.begun.workers.items c.requires.none_drawn)

pub seat_first-requires-clause-lanes : goal.seat_first-requires-clause-lanes
seat_first-requires-clause-lanes g c =
    lanes_laid g.N.LaneSession.names.script c.args.begun.batons.items c.args.begun.reactor
    c.push_reserved.new.self.items
    (c.push_reserved.ensures.items
    ∙ ap (λ value. c.lay_handlers-bench.result.items ++ value ∷ []) c.of_reactor.ensures
    ∙ ap (λ values. values ++ reactor (Some c.args.begun.reactor) ∷ []) c.lay_handlers-bench.ensures.all)
    c.requires.lanes c.requires.last

pub returns-clause-ready : goal.returns-clause-ready
returns-clause-ready g c =
    subst (λ all. AreReady g.N.LaneSession.names.script c.self.inside.turns all)
    (sym
    (all_written c.stand_by-all.result.len c.stand_by-all.result.items c.seat_first.new.workers
    (c.seat_first.auto.workers ∙ ap length c.as_mut_slice.ensures.value) (omega (arith, c.stand_by-all.result.ok))))
    c.seat_first.ensures.ready

pub returns-clause-fresh : goal.returns-clause-fresh
returns-clause-fresh g c =
    subst AreFresh
    (sym
    (all_written c.stand_by-all.result.len c.stand_by-all.result.items c.seat_first.new.workers
    (c.seat_first.auto.workers ∙ ap length c.as_mut_slice.ensures.value) (omega (arith, c.stand_by-all.result.ok))))
    c.seat_first.ensures.fresh

use Rattle.std.proofs.Common.{length, sym, subst, ◌∙◌}
use Rattle.lane_turns.specs.Benches.{AreWorkers}
use Rattle.lane_turns.proofs.EventCutLemmas.{cuts_go_on}
use Rattle.lane_turns.proofs.EventLemmas.{lanes_after, restarted_cuts, restarted_heard, workers_after}
use Rattle.lane_turns.proofs.events.restart_all.Goals as goal

pub attend_bench-requires-clause-lanes_heard : goal.attend_bench-requires-clause-lanes_heard
attend_bench-requires-clause-lanes_heard g c =
    restarted_heard g.B.Attendee.seat g.N.LaneSession.names.script g.N.LaneSession.clock c.hear_bench.new.opener c.restart.new.self c.hear_bench.new.lanes
    (length c.hear_bench.new.lanes) c.is_one.ensures c.restart.ensures.restarted c.hear_bench.ensures.lanes_heard

pub attend_bench-requires-clause-workers_heard : goal.attend_bench-requires-clause-workers_heard
attend_bench-requires-clause-workers_heard g c =
    restarted_heard g.W.Attendee.seat g.N.LaneSession.names.script g.N.LaneSession.clock c.hear_bench.new.opener c.restart.new.self c.hear_bench.new.workers
    (length c.hear_bench.new.workers) c.is_one.ensures c.restart.ensures.restarted c.hear_bench.ensures.workers_heard

pub returns-clause-cuts : goal.returns-clause-cuts
returns-clause-cuts g c =
    restarted_cuts g.B.Attendee.seat g.W.Attendee.seat g.N.LaneSession.names.script g.N.LaneSession.clock c.hear_bench.new.opener c.restart.new.self c.attend_bench.new.opener
    c.hear_bench.new.lanes c.attend_bench.new.lanes c.hear_bench.new.workers c.attend_bench.new.workers
    c.is_one.ensures c.hear_bench.ensures.lanes
    (subst (λ xs. AreWorkers g.W.Attendee.seat g.N.LaneSession.names.script xs) (sym c.hear_bench.ensures.same) c.requires.workers)
    c.hear_bench.ensures.lanes_heard c.hear_bench.ensures.workers_heard c.attend_bench.ensures.met
    (cuts_go_on g.N.LaneSession.names.script c.args.opener.now c.hear_bench.new.opener
    (sym c.hear_bench.ensures.on.number ∙ c.is_one.ensures.number) c.hear_bench.ensures.on c.requires.cuts) c.restart.ensures.restarted

pub returns-clause-lanes : goal.returns-clause-lanes
returns-clause-lanes g c =
    lanes_after g.B.Attendee.seat g.W.Attendee.seat g.N.LaneSession.names.script g.N.LaneSession.clock c.hear_bench.new.opener c.restart.new.self c.attend_bench.new.opener
    c.hear_bench.new.lanes c.attend_bench.new.lanes c.hear_bench.new.workers c.attend_bench.new.workers
    c.is_one.ensures c.hear_bench.ensures.lanes
    (subst (λ xs. AreWorkers g.W.Attendee.seat g.N.LaneSession.names.script xs) (sym c.hear_bench.ensures.same) c.requires.workers)
    c.hear_bench.ensures.lanes_heard c.hear_bench.ensures.workers_heard c.attend_bench.ensures.met

pub returns-clause-workers : goal.returns-clause-workers
returns-clause-workers g c =
    workers_after g.B.Attendee.seat g.W.Attendee.seat g.N.LaneSession.names.script g.N.LaneSession.clock c.hear_bench.new.opener c.restart.new.self c.attend_bench.new.opener
    c.hear_bench.new.lanes c.attend_bench.new.lanes c.hear_bench.new.workers c.attend_bench.new.workers
    c.is_one.ensures c.hear_bench.ensures.lanes
    (subst (λ xs. AreWorkers g.W.Attendee.seat g.N.LaneSession.names.script xs) (sym c.hear_bench.ensures.same) c.requires.workers)
    c.hear_bench.ensures.lanes_heard c.hear_bench.ensures.workers_heard c.attend_bench.ensures.met

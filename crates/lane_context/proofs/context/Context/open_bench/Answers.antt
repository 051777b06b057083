use Rattle.std.proofs.Common.{◌≡◌, subst, sym}
use Rattle.lane_turns.specs.AllWorkers.{clock_seat}
use Rattle.lane_turns.specs.Benches.{AreWorkers}
use Rattle.lane_turns.specs.Besides.{besides_of, rests_of}
use Rattle.lane_turns.proofs.AllWorkersLemmas.{free_there, lasts_again, logs_again, ready_again, rounds_sat, rows_gathered}
use Rattle.lane_context.proofs.context.Context.open_bench.Goals as goal

pub open_all-requires-clause-workers : goal.open_all-requires-clause-workers
open_all-requires-clause-workers g c =
    subst (λ ws. AreWorkers clock_seat g.N.LaneSession.names.script ws) (sym c.lay_out-seat.ensures.left)
    (rows_gathered g.N.LaneSession.names.script c.args.workers.now c.requires.ready.rows)

pub put_away-requires-clause-free : goal.put_away-requires-clause-free
put_away-requires-clause-free g c =
    free_there c.args.workers.now c.open_all.new.workers
    (subst (λ ws. rests_of besides_of c.open_all.new.workers ≡ rests_of besides_of ws) c.lay_out-seat.ensures.left
    c.open_all.ensures.rest)

pub returns-clause-ready : goal.returns-clause-ready
returns-clause-ready g c =
    ready_again g.N.LaneSession.names.script c.args.self.now c.args.workers.now c.open_all.new.workers
    c.put_away.new.workers c.requires.ready c.open_all.ensures.workers
    (subst (λ ws. rests_of besides_of c.open_all.new.workers ≡ rests_of besides_of ws) c.lay_out-seat.ensures.left
    c.open_all.ensures.rest)
    c.put_away.auto.workers c.put_away.ensures.sat

pub returns-clause-rounds : goal.returns-clause-rounds
returns-clause-rounds g c =
    rounds_sat c.args.self.now c.open_all.new.workers c.put_away.new.workers c.put_away.auto.workers
    c.put_away.ensures.sat g.N.LaneSession.names.script c.open_all.new.opener.stand c.open_all.ensures.worker_rounds

pub returns-clause-lasts : goal.returns-clause-lasts
returns-clause-lasts g c =
    lasts_again g.N.LaneSession.names.script c.args.self.now c.args.workers.now c.open_all.new.workers
    c.put_away.new.workers c.requires.ready c.open_all.ensures.workers
    (subst (λ ws. rests_of besides_of c.open_all.new.workers ≡ rests_of besides_of ws) c.lay_out-seat.ensures.left
    c.open_all.ensures.rest)
    c.put_away.auto.workers c.put_away.ensures.sat

pub returns-clause-logs : goal.returns-clause-logs
returns-clause-logs g c =
    logs_again g.N.LaneSession.names.script c.args.self.now c.args.workers.now c.open_all.new.workers
    c.put_away.new.workers c.requires.ready c.open_all.ensures.workers
    (subst (λ ws. rests_of besides_of c.open_all.new.workers ≡ rests_of besides_of ws) c.lay_out-seat.ensures.left
    c.open_all.ensures.rest)
    c.put_away.auto.workers c.put_away.ensures.sat

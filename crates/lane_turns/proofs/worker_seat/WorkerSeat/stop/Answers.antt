use Rattle.std.proofs.Common.{arith}
use Rattle.lane_turns.proofs.WorkerLemmas.{may_stop, worker_stopped}
use Rattle.lane_turns.proofs.worker_seat.WorkerSeat.stop.Goals as goal

pub invariant_of-self-2 : goal.invariant_of-self-2
invariant_of-self-2 g c =
    worker_stopped g.N.LaneSession.names.script g.N.LaneSession.clock
    (record {
      pen = c.self.inside.pen;
      round = c.self.inside.round;
      drew = c.self.inside.drew;
      stopped = c.self.inside.stopped;
      in_step = c.self.inside.in_step;
    }) c.self.invariant c.draw.new.self c.draw.result
    (may_stop c.self.inside.in_step c.self.inside.drew c.self.inside.round.base c.if-not-self.false c.if-self.false
    (omega (arith, c.if-self-eq-SHUT.false)))
    c.draw.ensures

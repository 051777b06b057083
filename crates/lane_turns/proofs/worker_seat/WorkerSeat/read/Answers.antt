use Rattle.lane_turns.proofs.WorkerLemmas.{worker_read}
use Rattle.lane_turns.proofs.worker_seat.WorkerSeat.read.Goals as goal

pub invariant_of-self : goal.invariant_of-self
invariant_of-self g c =
    worker_read g.N.LaneSession.names.script g.N.LaneSession.clock
    (record {
      pen = c.self.inside.pen;
      round = c.self.inside.round;
      drew = c.self.inside.drew;
      stopped = c.self.inside.stopped;
      in_step = c.self.inside.in_step;
    }) c.self.invariant c.load.new.self c.load.result c.load.ensures.gone

use Rattle.std.proofs.Common.{subst, sym}
use Rattle.lane_clock.specs.Seats.{SeatView}
use Rattle.lane_turns.specs.Meeting.{PenHasMet}
use Rattle.lane_turns.specs.Workers.{IsWorker}
use Rattle.lane_turns.proofs.WorkerLemmas.{worker_hears}
use Rattle.lane_turns.proofs.worker_seat.WorkerSeat.hear.Goals as goal

pub invariant_of-self : goal.invariant_of-self
invariant_of-self g c =
    let script = g.N.LaneSession.names.script in
    let old = c.self.inside in
    subst (λ in_step.
    IsWorker script g.N.LaneSession.clock (record {
      pen = c.meet.new.self;
      round = old.round;
      drew = old.drew;
      stopped = old.stopped;
      in_step = in_step;
    })) (sym c.still_in_step-self-inside.ensures)
    (worker_hears script g.N.LaneSession.clock
    (record { pen = old.pen; round = old.round; drew = old.drew; stopped = old.stopped; in_step = old.in_step })
    c.self.invariant c.args.lane.now.seat c.meet.new.self
    (subst (λ (copy : SeatView). PenHasMet copy old.pen c.meet.new.self) c.split-copy.ensures.copy c.meet.ensures)
    c.args.base c.requires.base)

use Rattle.lane_turns.proofs.ReactorFaultLemmas.{fault_remembered}
use Rattle.lane_context.proofs.worker_attendee.WorkerAttendee.attend.Goals as goal

pub invariant_of-self : goal.invariant_of-self
invariant_of-self g c =
    record {
      turns = search;
      last = search;
      room = search;
      knows =
          λ faulted.
          fault_remembered g.N.LaneSession.names.script c.self.inside.seat.pen.seat c.attend.new.self.pen.seat
          c.attend.ensures.met.told.remembers
          (c.self.invariant.knows faulted);
    }

use Rattle.std.proofs.Common.{◌≡◌, true}
use Rattle.lane_turns.specs.Attempts.{IsSeated}
use Rattle.lane_turns.specs.LaneValues.{terms, tries}
use Rattle.lane_turns.specs.Runs.{ReadsAndTries}
use Rattle.lane_turns.specs.Scanning.{GoesOn}
use Rattle.lane_context.proofs.context.Context.run.Given as goal

abbrev pub invariant-loop : goal.invariant-loop
invariant-loop g l =
    record {
      on : GoesOn l.fn.worker l.worker;
      turns : IsSeated l.self l.worker;
      rounds : ReadsAndTries
          (tries (terms g.N.LaneSession.names g.H.CompletionHandler.marks g.X.Reactor.state g.X.Reactor.told
          g.X.Reactor.faults g.N.LaneSession.faults g.N.LaneSession.clock) 16) l.self.lanes l.fn.worker l.worker;
      first : l.fn.worker.seat.stopped ≡ true → l.worker ≡ l.fn.worker;
    }

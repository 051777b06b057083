use Rattle.std.proofs.Common.{◌≡◌, None}
use Rattle.lane_turns.specs.Attempts.{IsSeated}
use Rattle.lane_turns.specs.LaneValues.{terms, tries}
use Rattle.lane_turns.specs.Scanning.{HavePassed}
use Rattle.lane_context.proofs.context.Context.scan.Given as goal

abbrev pub invariant-loop-lane : goal.invariant-loop-lane
invariant-loop-lane g l =
    record {
      passed : HavePassed
          (tries (terms g.N.LaneSession.names g.H.CompletionHandler.marks g.X.Reactor.state g.X.Reactor.told
          g.X.Reactor.faults g.N.LaneSession.faults g.N.LaneSession.clock) l.fn.most) l.from l.fn.worker l.lane l.worker;
      turns : IsSeated l.self l.worker;
      free : l.worker.kept ≡ None;
    }

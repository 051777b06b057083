use Rattle.std.proofs.Common.{◌≡◌, ◌≤◌, Some}
use Rattle.lane_turns.specs.LaneValues.{reactor, terms}
use Rattle.lane_turns.proofs.AttemptLemmas.{StandsAt}
use Rattle.lane_turns.proofs.reactor_baton.ReactorBaton.work.Given as goal

abbrev pub invariant-loop : goal.invariant-loop
invariant-loop g l =
    record {
      few : l.counter ≤ l.fn.most;
      stands : StandsAt
          (terms g.N.LaneSession.names g.H.CompletionHandler.marks g.X.Reactor.state g.X.Reactor.told
          g.X.Reactor.faults g.N.LaneSession.faults g.N.LaneSession.clock) l.counter l.last
          (reactor (Some l.fn.self)) (reactor (Some l.self));
      home : l.self.lane.lane ≡ l.fn.self.lane.lane;
    }

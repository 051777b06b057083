use Rattle.std.proofs.Common.{◌≡◌, ◌≤◌, [], Some}
use Rattle.std.specs.Prelude.{vec_capacity}
use Rattle.lane_turns.specs.Batons.{IsHandlerBaton}
use Rattle.lane_turns.specs.LaneValues.{handlers, terms}
use Rattle.lane_turns.specs.Polling.{most_made}
use Rattle.lane_turns.proofs.AttemptLemmas.{StandsAt}
use Rattle.lane_turns.proofs.handler_baton.HandlerBaton.work.Given as goal

abbrev pub invariant-loop : goal.invariant-loop
invariant-loop g l =
    record {
      few : l.counter ≤ l.fn.most;
      stands : StandsAt
          (terms g.N.LaneSession.names g.H.CompletionHandler.marks g.X.Reactor.state g.X.Reactor.told
          g.X.Reactor.faults g.N.LaneSession.faults g.N.LaneSession.clock) l.counter l.came.one
          (handlers (Some l.fn.self)) (handlers (Some (record { lane = l.came.lane; hands = l.hands })));
      baton : IsHandlerBaton g.N.LaneSession.names g.H.CompletionHandler.marks g.N.LaneSession.clock
          (record { lane = l.came.lane; hands = l.hands });
      home : l.came.lane.lane ≡ l.fn.self.lane.lane;
      none : l.came.made.items ≡ [];
      buffer : most_made l.script ≤ vec_capacity l.came.made;
    }

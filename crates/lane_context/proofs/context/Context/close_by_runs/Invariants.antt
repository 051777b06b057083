use Rattle.std.proofs.Common.{◌≡◌, []}
use Rattle.std.specs.Prelude.{vec_capacity}
use Rattle.lane_turns.specs.AllWorkers.{AreCuts, clock_seat}
use Rattle.lane_turns.specs.Benches.{AreWorkers}
use Rattle.lane_turns.specs.Gathering.{NoneKeeps, StandsForFirst}
use Rattle.lane_turns.specs.OwnRuns.{HasRunInVain}
use Rattle.lane_context.proofs.context.Context.close_by_runs.Given as goal

abbrev pub invariant-loop : goal.invariant-loop
invariant-loop g l =
    record {
      vain : HasRunInVain l.fn.opener l.opener l.fn.workers l.workers;
      rows : AreWorkers clock_seat g.N.LaneSession.names.script l.workers;
      free : NoneKeeps l.workers;
      cuts : AreCuts g.N.LaneSession.names.script l.opener;
      seat : StandsForFirst l.self l.self.seats l.rest;
      none : l.bench.items ≡ [];
      room : vec_capacity l.bench ≡ vec_capacity l.fn.bench;
    }

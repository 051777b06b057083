use Rattle.std.proofs.Common.{◌≡◌}
use Rattle.lane_turns.specs.Gathering.{unseated}
use Rattle.lane_context.proofs.GatheringLemmas.{IsGathered, changed_to}
use Rattle.lane_context.proofs.context.Context.gather_seats.Given as goal

abbrev pub invariant-loop-worker : goal.invariant-loop-worker
invariant-loop-worker g l =
    record {
      workers : l.workers ≡ changed_to unseated l.worker-index l.initial.workers;
      all : IsGathered l.self l.worker-index l.all;
    }

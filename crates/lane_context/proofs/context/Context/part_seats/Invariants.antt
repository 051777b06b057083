use Rattle.std.proofs.Common.{◌≤◌, ◌-◌, length}
use Rattle.lane_turns.specs.Gathering.{HaveSatDown, StandsForFirst}
use Rattle.lane_context.proofs.context.Context.part_seats.Given as goal

abbrev pub invariant-loop-left : goal.invariant-loop-left
invariant-loop-left g l =
    record {
      rest : StandsForFirst l.self l.left l.rest;
      sat : HaveSatDown l.self l.left l.initial.workers l.workers;
      some : 1 ≤ l.left;
      within : l.left ≤ length l.workers;
    }

abbrev pub decreases-loop-left : goal.decreases-loop-left
decreases-loop-left g l = l.left - 1

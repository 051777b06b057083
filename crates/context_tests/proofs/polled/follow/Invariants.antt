use Rattle.lane_turns.specs.AllWorkers.{AreReady}
use Rattle.context_tests.proofs.polled.follow.Given as goal

abbrev pub invariant-loop-number : goal.invariant-loop-number
invariant-loop-number g l = AreReady g.N.LaneSession.names.script l.context l.all

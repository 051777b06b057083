use Rattle.std.proofs.Common.{◌≡◌, map}
use Rattle.lane_turns.specs.AllWorkers.{AreCuts, AreReady, NoneFaulted, log_of}
use Rattle.session_run.specs.LaneRounds.{AreClosed}
use Rattle.session_run.proofs.lane_rounds.run_lane_rounds.Given as goal

abbrev pub invariant-loop-at : goal.invariant-loop-at
invariant-loop-at g l = record {
  ready : AreReady g.N.LaneSession.names.script l.context l.workers.all;
  cuts : AreCuts g.N.LaneSession.names.script l.workers.opener;
  none : NoneFaulted l.workers.all;
  before : AreClosed l.at l.workers.opener.stand;
  logs : map log_of l.workers.all ≡ map log_of l.fn.workers.all;
}

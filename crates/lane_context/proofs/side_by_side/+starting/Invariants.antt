use Rattle.std.proofs.Common.{length, ◌+◌, ◌*◌}
use Rattle.lane_context.proofs.side_by_side.+starting.Given as goal

abbrev pub decreases-start_first-rest_runs : goal.decreases-start_first-rest_runs
decreases-start_first-rest_runs g l = 3 * length l.rest.now + 1

abbrev pub decreases-start_each : goal.decreases-start_each
decreases-start_each g l = 3 * length l.workers.now

abbrev pub decreases-start_first : goal.decreases-start_first
decreases-start_first g l = 3 * length l.rest.now + 2

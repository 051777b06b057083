-- For how many events the history of a session without a lock needs room, which is made before it, this
-- project's own.
use Rattle.std.specs.Prelude.{◌≤◌, ℕ, ◌+◌, ◌*◌, length}
use Rattle.session_script.specs.Script.{ScriptModel}
use Rattle.session_script.specs.WellFormed.{IsWellFormed}
use Rattle.lane_logs.specs.Logs.{AreLogs, LogsView}
use Rattle.lane_logs.specs.Names.{SessionNames}

-- each act shows at most its call, its return, its take, its completion, the tick to its expiry, and the
-- begin and the end of its handler; each round a restart, a closing, and of at most 17 workers a stop
-- from outside each; and there are the times of the world, the last time point and a failure of the
-- reactor
abbrev pub most_merged : ScriptModel → ℕ
most_merged script =
    7 * length script.acts + 19 * length script.rounds + length script.world.lines + 2

-- what was drawn, and the drops, fit into that room
abbrev pub MergedFits : Type 0
MergedFits =
    (names : SessionNames) (logs : LogsView) → IsWellFormed names.script → AreLogs names logs →
    logs.last.clock + length logs.drops ≤ most_merged names.script

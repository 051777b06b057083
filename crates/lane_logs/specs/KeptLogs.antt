-- The logs that a session leaves, as they are kept (Asio reference, io_context::~io_context).
use Rattle.std.specs.Prelude.{◌≡◌, ◌<◌, ◌^◌, ℕ, List, Option, length}
use Rattle.std.specs.List.{flat_map}
use Rattle.asio_types.specs.declared.event.Event.{Event}
use Rattle.lane_clock.specs.declared.found.Found.{Found}
use Rattle.lane_clock.specs.Seats.{SeatView}
use Rattle.lane_logs.specs.declared.log.LogEntry.{LogEntry}
use Rattle.lane_logs.specs.Drops.{untouched_marks}
use Rattle.lane_logs.specs.Labels.{events_in}
use Rattle.lane_logs.specs.Logs.{LogsView}
use Rattle.lane_logs.specs.Names.{SessionNames}
use Rattle.lane_logs.specs.Knowing.{lists_of}

-- the logs that a session leaves, with what was known of all steps, and the sum of the drop marks of the
-- handlers whose drops are no events
pub record KeptLogs : Type 0 where
  pub known : SeatView
  pub last : Found
  pub entries : List (List LogEntry)
  pub missed : List (Option ℕ)
  pub drops : List Event
  pub let_go : ℕ

abbrev pub logs_in : KeptLogs → LogsView
logs_in kept = record {
  lists = lists_of kept.known;
  last = kept.last;
  entries = kept.entries;
  missed = kept.missed;
  drops = kept.drops;
}

-- the handlers of the operations that no log has called were destroyed without a call: only that tells
-- their drop marks
pub record LetGo (names : SessionNames) (kept : KeptLogs) : Type 0 where
  pub is : kept.let_go
      ≡ untouched_marks names (flat_map events_in kept.entries) (length names.script.acts)
  pub few : kept.let_go < 2 ^ 96

-- The logs of a session that is over, with the clock that gave them their positions.
use Rattle.std.specs.Prelude.{◌≡◌, ◌⊎◌, ℕ, ◌<◌, true, List, [], Option, None, flat_map, length, slice_index_or}
use Rattle.asio_types.specs.declared.event.Event.{Event}
use Rattle.session_script.specs.Script.{ScriptModel}
use Rattle.history_rules.specs.FromOutside.{has_fault}
use Rattle.lane_clock.specs.declared.found.Found.{Found}
use Rattle.lane_clock.specs.declared.step.ClockStep.{ClockStep}
use Rattle.lane_clock.specs.Closing.{Closed}
use Rattle.lane_clock.specs.Layout.{Layout, layout}
use Rattle.lane_map.specs.LaneNumbers.{cells_of, reactor_lane}
use Rattle.lane_logs.specs.declared.log.LogEntry.{LogEntry}
use Rattle.lane_logs.specs.Cuts.{IsCut, IsEventAt}
use Rattle.lane_logs.specs.Drops.{drops_of}
use Rattle.lane_logs.specs.Labels.{events_in}
use Rattle.lane_logs.specs.LaneLog.{IsLaneLog}
use Rattle.lane_logs.specs.Names.{SessionNames}
use Rattle.lane_logs.specs.OpenerLog.{IsOpenerLog}
use Rattle.lane_logs.specs.SeatNumbers.{IsWorkerSeat, lane_count, opener_seat, seat_count, worker_count}
use Rattle.lane_logs.specs.Stand.{stand_of}
use Rattle.lane_logs.specs.WorkerLog.{IsWorkerLog}

pub record LogsView : Type 0 where
  -- of each seat's number its steps
  pub lists : ℕ → List ClockStep
  -- what the clock word held in the end
  pub last : Found
  -- of each seat's number its entries
  pub entries : List (List LogEntry)
  -- of each lane the operation that was missed first
  pub missed : List (Option ℕ)
  -- the drops
  pub drops : List Event

abbrev pub entries_of : LogsView → ℕ → List LogEntry
entries_of logs n = slice_index_or logs.entries n []

abbrev pub missed_by : LogsView → ℕ → Option ℕ
missed_by logs lane = slice_index_or logs.missed lane None

-- all events that the logs show, those of one log after those of another
abbrev pub all_events : LogsView → List Event
all_events logs = flat_map events_in logs.entries

-- how the words of a session's clock lie
abbrev pub session_layout : ScriptModel → Layout
session_layout script = layout script.guards (cells_of script) (worker_count script)

-- the session is over: all rounds were closed, or the reactor failed
abbrev pub IsSessionOver : ScriptModel → LogsView → Type 0
IsSessionOver script logs =
    ((stand_of script (logs.lists (opener_seat script))).closings ≡ length script.rounds)
    ⊎ (has_fault (events_in (entries_of logs (reactor_lane script))) ≡ true)

-- the logs that a context without a lock leaves
pub record AreLogs (names : SessionNames) (logs : LogsView) : Type 0 where
  pub closed : Closed logs.lists (session_layout names.script) logs.last
  pub count : length logs.entries ≡ seat_count names.script
  pub lanes : (lane : ℕ) → lane < lane_count names.script →
      IsLaneLog names (logs.lists (opener_seat names.script)) lane (logs.lists lane)
      (entries_of logs lane) (missed_by logs lane)
  pub workers : (n : ℕ) → IsWorkerSeat names.script n →
      IsWorkerLog names.script (logs.lists (opener_seat names.script)) (logs.lists n)
      (entries_of logs n)
  pub opener : IsOpenerLog names.script logs.lists (entries_of logs (opener_seat names.script))
  -- every event of the opener is a cut
  pub cuts : (j n : ℕ) → IsEventAt names.script logs.lists j → n < opener_seat names.script →
      IsCut names.script logs.lists j n
  pub over : IsSessionOver names.script logs
  pub drops : logs.drops ≡ drops_of names (all_events logs)

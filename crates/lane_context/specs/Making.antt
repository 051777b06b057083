-- The values with which a session without a lock begins, this project's own.
use Rattle.std.specs.Prelude.{◌≡◌, ◌≤◌, ℕ, List, [], replicate, vec_capacity}
use Rattle.session_script.specs.Script.{ScriptModel}
use Rattle.reactor_turns.specs.Ahead.{most_turn_events}
use Rattle.lane_context.specs.declared.making.LogRoom.{LogRoom}
use Rattle.lane_logs.specs.SeatNumbers.{worker_count}
use Rattle.lane_turns.specs.Rooms.{AreNewLogs, lane_rooms, opener_room, worker_room}
use Rattle.lane_map.specs.LaneNumbers.{reactor_lane}

-- the rooms of the workers' logs
abbrev pub worker_rooms : ScriptModel → List ℕ
worker_rooms script = replicate (worker_count script) (worker_room script)

-- logs with nothing in them, with room for all that their seats may draw
pub record HasLogRoom (script : ScriptModel) (room : LogRoom) : Type 0 where
  pub lanes : AreNewLogs (lane_rooms script) room.lanes.items
  pub reactor : most_turn_events script ≤ vec_capacity room.reactor
  pub no_reactor : room.reactor.items ≡ []
  pub workers : AreNewLogs (worker_rooms script) room.workers.items
  pub opener : opener_room script ≤ vec_capacity room.opener
  pub no_opener : room.opener.items ≡ []
  pub lane_pens : reactor_lane script ≤ vec_capacity room.lane_pens
  pub no_lane_pens : room.lane_pens.items ≡ []
  pub worker_pens : worker_count script ≤ vec_capacity room.worker_pens
  pub no_worker_pens : room.worker_pens.items ≡ []

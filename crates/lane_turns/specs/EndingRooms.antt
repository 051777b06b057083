-- The memory that the end of a session needs, which is there before the session begins (this
-- project's own; Asio reference, io_context::~io_context).
use Rattle.std.specs.Prelude.{◌≡◌, ◌≤◌, Bool, false, List, [], All, length, vec_capacity}
use Rattle.session_script.specs.Script.{ScriptModel}
use Rattle.lane_map.specs.LaneNumbers.{reactor_lane}
use Rattle.lane_logs.specs.SeatNumbers.{lane_count, opener_seat, seat_count}
use Rattle.lane_turns.specs.declared.ending_room.LeavingRoom.{LeavingRoom}

-- a mark for each act, none of which is set
pub record AreUnset (script : ScriptModel) (marks : List Bool) : Type 0 where
  pub count : length marks ≡ length script.acts
  pub none : All (λ is. is ≡ false) marks

-- room for what a session leaves, with nothing in it
pub record HasLeavingRoom {H : Type 0} (script : ScriptModel) (room : LeavingRoom H) : Type 0 where
  pub no_pens : room.left.pens.items ≡ []
  pub pens : opener_seat script ≤ vec_capacity room.left.pens
  pub no_misses : room.left.missed.items ≡ []
  pub misses : lane_count script ≤ vec_capacity room.left.missed
  pub no_hands : room.left.hands.items ≡ []
  pub hands : reactor_lane script ≤ vec_capacity room.left.hands
  pub no_logs : room.logs.items ≡ []
  pub logs : seat_count script ≤ vec_capacity room.logs
  pub no_drops : room.drops.items ≡ []
  pub drops : length script.acts ≤ vec_capacity room.drops
  pub called : AreUnset script room.called.items
  pub begun : AreUnset script room.begun.items

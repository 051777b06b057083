-- For how many entries the logs of a session need room, all of which is made before it begins, this
-- project's own.
use Rattle.std.specs.Prelude.{◌≡◌, ℕ, ◌+◌, ◌≤◌, List, [], length, map, slice_index, slice_get, vec_capacity, Some, Vec}
use Rattle.std.specs.List.{range_with_len}
use Rattle.std.specs.Global.{Global}
use Rattle.session_script.specs.Script.{ScriptModel}
use Rattle.strand_core.specs.Room.{room_for}
use Rattle.lane_clock.specs.Seats.{ClockId, Owns, SeatsLeft, new_clock_seat}
use Rattle.lane_map.specs.LaneNumbers.{is_op_on, reactor_lane}
use Rattle.lane_logs.specs.declared.log.LogEntry.{LogEntry}
use Rattle.lane_logs.specs.Stand.{draws_to_come, first_stand}
use Rattle.lane_turns.specs.Pens.{PenView}

-- all that the handlers of a lane may show
abbrev pub lane_room : ScriptModel → ℕ → ℕ
lane_room script lane = room_for script (is_op_on script lane)

-- of each lane on which handlers execute
abbrev pub lane_rooms : ScriptModel → List ℕ
lane_rooms script = map (lane_room script) (range_with_len 0 (reactor_lane script))

-- the calls of `open`, and a restart and a closing of each round
abbrev pub opener_room : ScriptModel → ℕ
opener_room script = draws_to_come script (first_stand script)

-- a stop of each round
abbrev pub worker_room : ScriptModel → ℕ
worker_room script = length script.rounds

-- of each of a list, with its index
abbrev pub EachAt : {T : Type 0} → (ℕ → T → Type 0) → List T → Type 0
EachAt {T} P all = (k : ℕ) (one : T) → slice_get all k ≡ Some one → P k one

-- a pen of a seat that has done nothing, with room for so many entries
pub record IsNewPen (clock : ClockId) (number most : ℕ) (pen : PenView) : Type 0 where
  pub seat : pen.seat ≡ new_clock_seat clock number
  pub owns : Owns pen.seat number
  pub log : pen.log ≡ []
  pub room : most ≤ pen.room

-- pens of seats one after another, each with room for as many entries as is listed
abbrev pub AreNewPens : ClockId → ℕ → List ℕ → List PenView → Type 0
AreNewPens clock first rooms pens =
    (length pens ≡ length rooms)
    × EachAt (λ k pen. IsNewPen clock (first + k) (slice_index rooms k) pen) pens

-- logs with nothing in them, each with room for as many entries as is listed
abbrev pub AreNewLogs : List ℕ → List (Vec LogEntry Global) → Type 0
AreNewLogs rooms logs =
    (length logs ≡ length rooms)
    × EachAt (λ k log. (log.items ≡ []) × (slice_index rooms k ≤ vec_capacity log)) logs

-- so many seats more were given
abbrev pub seats_on : ℕ → SeatsLeft → SeatsLeft
seats_on count list = record { clock = list.clock; next = list.next + count }

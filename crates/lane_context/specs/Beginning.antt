-- All that takes part in a session before its first event, this project's own.
use Rattle.std.specs.Prelude.{◌≡◌, List, length}
use Rattle.session_script.specs.Script.{ScriptModel}
use Rattle.op_handlers.specs.declared.rack.Rack.{Rack}
use Rattle.reactor_turns.specs.Ahead.{most_turn_events}
use Rattle.strand_core.specs.Hands.{Held}
use Rattle.lane_clock.specs.Seats.{ClockId}
use Rattle.lane_map.specs.LaneNumbers.{reactor_lane}
use Rattle.lane_logs.specs.SeatNumbers.{lane_count, opener_seat, worker_count}
use Rattle.lane_turns.specs.Batons.{BatonView}
use Rattle.lane_turns.specs.Firsts.{IsFirstBaton, IsFirstWorker, first_lane, first_opener}
use Rattle.lane_turns.specs.Openers.{OpenerView}
use Rattle.lane_turns.specs.Rooms.{EachAt, IsNewPen, opener_room}
use Rattle.lane_context.specs.Setup.{HasTaken}
use Rattle.lane_turns.specs.Turning.{ReactorView}
use Rattle.lane_turns.specs.Workers.{WorkerView}

-- every lane with the handlers that are listed at its number, every worker, the reactor's lane and
-- the opener, none of which has done anything; each has the seat of its number
pub record HasBegun {H X : Type 0} (script : ScriptModel) (clock : ClockId) (listed : List (Held H))
    (opener : OpenerView) (batons : List (BatonView H)) (reactor : ReactorView X)
    (workers : List WorkerView) : Type 0 where
  pub count : length batons ≡ reactor_lane script
  pub lanes : EachAt (IsFirstBaton script clock listed) batons
  pub reactor_pen : IsNewPen clock (reactor_lane script) (most_turn_events script) reactor.lane.pen
  pub reactor_is : reactor.lane ≡ first_lane script (reactor_lane script) reactor.lane.pen
  pub work : length workers ≡ worker_count script
  pub workers_are : EachAt (IsFirstWorker script clock) workers
  pub opener_pen : IsNewPen clock (opener_seat script) (opener_room script) opener.pen
  pub opener_is : opener ≡ first_opener script opener.pen

-- and each lane has the handlers of its operations that were in the rack
pub record HasBegunWith {H X : Type 0} (script : ScriptModel) (clock : ClockId) (rack : Rack H)
    (opener : OpenerView) (batons : List (BatonView H)) (reactor : ReactorView X)
    (workers : List WorkerView) : Type 0 where
  pub listed : List (Held H)
  pub size : length listed ≡ lane_count script
  pub held : EachAt (λ lane own. HasTaken script lane rack own) listed
  pub begun : HasBegun script clock listed opener batons reactor workers

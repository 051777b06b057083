-- A worker between its calls, with its seats (Asio reference, io_context; seats are this project's own).
use Rattle.std.specs.Prelude.{◌≡◌, ℕ, ◌+◌, Option}
use Rattle.session_script.specs.Script.{ScriptModel}
use Rattle.turn_table.specs.Seated.{Lanes}
use Rattle.lane_logs.specs.SeatNumbers.{lane_count}
use Rattle.lane_turns.specs.AllWorkers.{clock_seat}
use Rattle.lane_turns.specs.Attempts.{WorkerState}
use Rattle.lane_turns.specs.Gathering.{IsSeatedAs}
use Rattle.lane_turns.specs.LaneValues.{Tries}
use Rattle.lane_turns.specs.Pens.{no_pen}
use Rattle.op_future.specs.declared.task_end.TaskEnd.{TaskEnd}
use Rattle.op_future.specs.Futures.{HasStepped}
use Rattle.op_future.specs.Steps.{party}
use Rattle.op_future.specs.Tasks.{TaskState}

-- the worker with this number has its seats of the clock and of the table
pub record IsReadyAs {H X : Type 0} (script : ScriptModel) (lanes : Lanes) (number : ℕ)
    (worker : WorkerState H X) : Type 0 where
  pub row : (clock_seat worker).number ≡ lane_count script + number
  pub seat : IsSeatedAs lanes number worker

-- a worker with its number
pub record SeatedState (H X : Type 0) : Type 0 where
  pub number : ℕ
  pub worker : WorkerState H X

-- a step with it answered so, and it keeps its number
pub record HasSteppedAs {H X : Type 0} (t : Tries H X) (lanes : Lanes) (answer : Option TaskEnd)
    (old : SeatedState H X) (before : TaskState) (new : SeatedState H X) (after : TaskState)
    : Type 0 where
  pub number : new.number ≡ old.number
  pub step : HasStepped t lanes answer (party old.worker before) (party new.worker after)

-- a table of no lanes
abbrev pub no_lanes : Lanes
no_lanes = record { table = no_pen.seat.clock.table; lanes = 0; seats = 0 }

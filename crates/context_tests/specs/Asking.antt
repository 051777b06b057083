-- A worker between its calls (Asio reference, io_context; seats are this project's own).
use Rattle.std.specs.Prelude.{◌≡◌, ℕ, ◌+◌}
use Rattle.session_script.specs.Script.{ScriptModel}
use Rattle.turn_table.specs.Seated.{Lanes}
use Rattle.lane_logs.specs.SeatNumbers.{lane_count}
use Rattle.lane_turns.specs.AllWorkers.{clock_seat}
use Rattle.lane_turns.specs.Attempts.{WorkerState}
use Rattle.lane_turns.specs.Gathering.{IsSeatedAs}

-- the worker with this number has its seats of the clock and of the table
pub record IsReadyAs {H X : Type 0} (script : ScriptModel) (lanes : Lanes) (number : ℕ)
    (worker : WorkerState H X) : Type 0 where
  pub row : (clock_seat worker).number ≡ lane_count script + number
  pub seat : IsSeatedAs lanes number worker

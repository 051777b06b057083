-- The workers of a round, each with a task, and what they did (Asio reference, io_context::run; that
-- tasks are polled by hand is this project's own).
use Rattle.std.specs.Prelude.{◌≡◌, ℕ, ◌≤◌, List, [], Some, length, slice_get, vec_capacity}
use Rattle.std.specs.Global.{Vec}
use Rattle.session_script.specs.Script.{ScriptModel}
use Rattle.turn_table.specs.Seated.{Lanes}
use Rattle.lane_clock.specs.Seats.{own}
use Rattle.lane_turns.specs.AllWorkers.{clock_seat}
use Rattle.lane_turns.specs.Attempts.{IsSeated, WorkerState}
use Rattle.op_future.specs.Steps.{HasGot, HasGotFrom, Party, party}
use Rattle.op_future.specs.Tasks.{TaskState}

-- room for so many, with none there yet
pub record IsRoomFor {A : Type 0} (count : ℕ) (room : Vec A) : Type 0 where
  pub none : room.items ≡ []
  pub enough : count ≤ vec_capacity room

-- a worker made steps of its task, called `run`, and has its seat at the table
pub record HasRunTask {H X : Type 0} (script : ScriptModel) (lanes : Lanes) (old new : Party H X)
    : Type 0 where
  pub got : HasGot script old new
  pub seated : IsSeated lanes new.worker

module _ {H X : Type 0} where
  -- the first workers each did so with the task of their number, and the others are as they were
  pub record EachWithTask (Did : Party H X → Party H X → Type 0) (olds news : List (WorkerState H X))
      (tasks tasks_now : List TaskState) : Type 0 where
    pub workers : length news ≡ length olds
    pub size : length tasks_now ≡ length tasks
    pub each : (k : ℕ) (old new : WorkerState H X) (before after : TaskState) →
        slice_get olds k ≡ Some old → slice_get news k ≡ Some new → slice_get tasks k ≡ Some before →
        slice_get tasks_now k ≡ Some after → Did (party old before) (party new after)
    pub rest : (k : ℕ) → length tasks ≤ k → slice_get news k ≡ slice_get olds k

  -- each task was handed receipts that the worker of its number found
  pub record HaveGotFrom (script : ScriptModel) (workers : List (WorkerState H X))
      (tasks tasks_now : List TaskState) : Type 0 where
    pub size : length tasks_now ≡ length tasks
    pub each : (k : ℕ) (worker : WorkerState H X) (before after : TaskState) →
        slice_get workers k ≡ Some worker → slice_get tasks k ≡ Some before →
        slice_get tasks_now k ≡ Some after → HasGotFrom script (own (clock_seat worker)) before after

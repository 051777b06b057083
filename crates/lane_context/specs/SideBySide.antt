-- Workers that run at the same time (Asio reference, io_context::run).
use Rattle.std.specs.Prelude.{◌≡◌, ℕ, ◌<◌, ◌≤◌, List, Some, length, slice_get, slice_index_or}
use Rattle.turn_table.specs.Seated.{Lanes}
use Rattle.lane_turns.specs.declared.run_end.RunEnd.{RunEnd}
use Rattle.lane_turns.specs.Attempts.{IsSeated, WorkerState}
use Rattle.lane_turns.specs.LaneValues.{Tries}
use Rattle.lane_turns.specs.Runs.{HasRun}
use Rattle.lane_turns.specs.Scanning.{GoesOn}

-- each of these did so, and no other came or went
pub record HaveRun {W : Type 0} (ran : W → W → Type 0) (olds news : List W) : Type 0 where
  pub size : length news ≡ length olds
  pub each : (k : ℕ) (d : W) → k < length olds → ran (slice_index_or olds k d) (slice_index_or news k d)

module _ {H X : Type 0} (t : Tries H X) (lanes : Lanes) where
  -- a worker called `run`, and has its seat at the table
  pub record HasCalledRun (old new : WorkerState H X) : Type 0 where
    pub answer : RunEnd
    pub run : HasRun t lanes.lanes answer old new
    pub on : GoesOn old new
    pub seated : IsSeated lanes new

  -- the first of all workers, so many, did, and the others are as they were
  pub record FirstHaveRun (count : ℕ) (olds news : List (WorkerState H X)) : Type 0 where
    pub ran : (k : ℕ) (old new : WorkerState H X) → k < count → slice_get olds k ≡ Some old →
        slice_get news k ≡ Some new → HasCalledRun old new
    pub others : (k : ℕ) → count ≤ k → slice_get news k ≡ slice_get olds k

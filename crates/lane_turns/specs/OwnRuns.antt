-- The caller's own worker runs, with a seat at the table that stands for all numbers (Asio
-- reference, io_context::run).
use Rattle.std.specs.Prelude.{◌≡◌, ℕ, ◌+◌, ◌-◌, ◌<◌, List, Some, length, slice_get}
use Rattle.turn_table.specs.Seated.{Seated}
use Rattle.lane_turns.specs.declared.run_end.RunEnd.{RunEnd}
use Rattle.lane_turns.specs.AllWorkers.{NoneFaulted}
use Rattle.lane_turns.specs.Attempts.{WorkerState}
use Rattle.lane_turns.specs.Attending.{HasGoneOn}
use Rattle.lane_turns.specs.Gathering.{unseated}
use Rattle.lane_turns.specs.LaneValues.{Tries}
use Rattle.lane_turns.specs.Openers.{OpenerView}
use Rattle.lane_turns.specs.Runs.{HasRun}
use Rattle.lane_turns.specs.Scanning.{SeatGoesOn}

pub record HasRunOwn {H X : Type 0} (t : Tries H X) (lanes : ℕ) (now : RunEnd)
    (old new : WorkerState H X) : Type 0 where
  pub turns : Seated
  pub ran : WorkerState H X
  pub is : HasRun t lanes now (record old { turns = Some turns }) ran
  pub on : SeatGoesOn old.seat ran.seat
  pub left : new ≡ unseated ran

module _ {H X : Type 0} where
  -- all workers but the last stay, and that is now another
  pub record LastIsNow (olds news : List (WorkerState H X)) (old new : WorkerState H X) : Type 0 where
    pub size : length news ≡ length olds
    pub was : slice_get olds (length olds - 1) ≡ Some old
    pub is : slice_get news (length olds - 1) ≡ Some new
    pub others : (k : ℕ) → k + 1 < length olds → slice_get news k ≡ slice_get olds k

  -- the caller's own worker, the last of all, ran
  pub record LastHasRun (t : Tries H X) (lanes : ℕ) (now : RunEnd) (olds news : List (WorkerState H X))
      : Type 0 where
    pub old : WorkerState H X
    pub new : WorkerState H X
    pub only : LastIsNow olds news old new
    pub ran : HasRunOwn t lanes now old new

  -- it did so, and no event came of that: a load or looks refuted the closing
  pub record HasRunInVain (opener opener_now : OpenerView) (olds news : List (WorkerState H X))
      : Type 0 where
    pub on : HasGoneOn opener opener_now
    pub old : WorkerState H X
    pub new : WorkerState H X
    pub only : LastIsNow olds news old new
    pub seat : SeatGoesOn old.seat new.seat
    pub none : NoneFaulted news

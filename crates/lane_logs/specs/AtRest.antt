-- A context at rest, after its workers, by the steps of its seats: nobody makes a step any more, so what its
-- cells hold is final, also where the reactor failed (Asio reference, io_context::~io_context; the means are
-- this project's own).
use Rattle.std.specs.Prelude.{◌≡◌, ℕ, ◌<◌, ◌≤◌, false, List, Option, length, slice_index, take}
use Rattle.session_script.specs.Script.{ScriptModel}
use Rattle.lane_clock.specs.declared.note.Note.{Note}
use Rattle.lane_clock.specs.declared.step.ClockStep.{ClockStep}
use Rattle.lane_clock.specs.declared.step.ClockStep.TheVariants.{Look}
use Rattle.lane_clock.specs.Rule.{StepAt}
use Rattle.lane_map.specs.LaneNumbers.{cells_of, home_lane}
use Rattle.lane_logs.specs.Knowing.{joined_count}
use Rattle.lane_logs.specs.OpenerLog.{IsRestingStep}
use Rattle.lane_logs.specs.Receipts.{holds_op}
use Rattle.lane_logs.specs.SeatNumbers.{opener_seat}

module _ (script : ScriptModel) (lists : ℕ → List ClockStep) (since : ℕ) where
  -- the opener's steps from this number on are loads, looks and joins
  abbrev pub RestsFrom : Type 0
  RestsFrom = (at : ℕ) (step : ClockStep) → since ≤ at → StepAt lists (opener_seat script) at step →
      IsRestingStep step

  -- before this number of its steps the opener had taken in all that lanes and workers ever do, and
  -- from there on it rests
  pub record IsAtRest : Type 0 where
    pub all : (n : ℕ) → n < opener_seat script →
        joined_count n (take since (lists (opener_seat script))) ≡ length (lists n)
    pub resting : RestsFrom

  -- then it looked at a place, which didn't hold a note of the operation
  pub record LooksElse (op lane place : ℕ) : Type 0 where
    pub at : ℕ
    pub from : since ≤ at
    pub held : Option Note
    pub saw : StepAt lists (opener_seat script) at (Look lane place held)
    pub other : holds_op op held ≡ false

  -- and so it did at each cell of the operation's lane
  abbrev pub FoundNoneFrom : ℕ → Type 0
  FoundNoneFrom op = (place : ℕ) → place < slice_index (cells_of script) (home_lane script op) →
      LooksElse op (home_lane script op) place

-- What the opener's list shows where all lanes and workers met without an event of it (the means are this
-- project's own).
use Rattle.std.specs.Prelude.{ℕ, ◌<◌, List, take}
use Rattle.session_script.specs.Script.{ScriptModel}
use Rattle.lane_clock.specs.declared.step.ClockStep.{ClockStep}
use Rattle.lane_map.specs.LaneNumbers.{reactor_lane}
use Rattle.lane_logs.specs.Cuts.{IsCut, steps_before}
use Rattle.lane_logs.specs.SeatNumbers.{opener_seat}
use Rattle.lane_turns.specs.KnownFaults.{SomeStop}

-- The opener made a step by which it knew that the reactor had failed. Before that it had taken in all
-- that lanes and workers did, and each one's next step takes it in
pub record HaveMetAfterFault (script : ScriptModel) (lists : ℕ → List ClockStep) : Type 0 where
  pub at : ℕ
  pub failed : SomeStop (take (steps_before script lists at (reactor_lane script)) (lists (reactor_lane script)))
  pub cuts : (n : ℕ) → n < opener_seat script → IsCut script lists at n

-- A poster of a lane: what it made since its execution began, and what it takes next.
use Rattle.std.specs.Prelude.{◌≡◌, ℕ, ◌<◌, ◌≤◌, List, ◌++◌, length}
use Rattle.session_script.specs.Limits.{most_acts}
use Rattle.session_script.specs.Script.{ScriptModel}
use Rattle.strand_core.specs.declared.posted.Posted.{Posted}
use Rattle.strand_core.specs.Execution.{events_of}
use Rattle.lane_clock.specs.Seats.{ClockId}
use Rattle.lane_map.specs.LaneNumbers.{asked_lane, cells_of}
use Rattle.lane_logs.specs.Calls.{CallsActs}
use Rattle.lane_turns.specs.Pens.{HasDrawnCalls, MayGo, PenView}

pub record PosterView : Type 0 where
  pub script : ScriptModel
  pub pen : PenView
  -- the calls since the execution began, and for how many more there is room
  pub made : List Posted
  pub spare : ℕ

-- the clock has cells for the script's lanes, and each act asks one of them
pub record FitsClock (script : ScriptModel) (clock : ClockId) : Type 0 where
  pub cells : clock.plan.cells ≡ cells_of script
  pub lanes : (act : ℕ) → act < length script.acts → asked_lane script act < length (cells_of script)
  pub few : length script.acts ≤ most_acts

-- the pen has come from where it started by the calls that were made
pub record IsPosting (clock : ClockId) (start : PenView) (view : PosterView) : Type 0 where
  pub clock_is : view.pen.seat.clock ≡ clock
  pub fits : FitsClock view.script clock
  pub drawn : HasDrawnCalls view.script view.made start view.pen

-- there is room for these calls, for the entries of their events, and for their steps
pub record TakesCalls (script : ScriptModel) (pen : PenView) (spare : ℕ) (calls : List Posted)
    : Type 0 where
  pub buffer : length calls ≤ spare
  pub room : MayGo pen (length (events_of script calls)) (length calls)
  pub acts : CallsActs script calls

-- the poster takes these calls next, and so each first part of them
abbrev pub TakesNext : PosterView → List Posted → Type 0
TakesNext view calls =
    (first rest : List Posted) → calls ≡ first ++ rest →
    TakesCalls view.script view.pen view.spare first

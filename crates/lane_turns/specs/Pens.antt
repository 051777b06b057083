-- A pen: a seat and the log of what it draws; what some labelled steps make of it, and whether it
-- has room for more.
use Rattle.std.specs.Prelude.{◌≡◌, ℕ, ◌+◌, ◌≤◌, List, [], ◌∷◌, ◌++◌, length}
use Rattle.asio_types.specs.declared.event.Event.{Event}
use Rattle.asio_types.specs.declared.event.Event.TheVariants as event
use Rattle.session_script.specs.Script.{ScriptModel}
use Rattle.strand_core.specs.declared.posted.Posted.{Posted}
use Rattle.lane_clock.specs.declared.note.Note.{Note}
use Rattle.lane_clock.specs.declared.step.ClockStep.{ClockStep}
use Rattle.lane_clock.specs.Seats.{SeatView, Keeps, after_step, own}
use Rattle.lane_clock.specs.Steps.{draw_count, place_count, step_count, most_draws}
use Rattle.lane_logs.specs.declared.log.LogEntry.{LogEntry}
use Rattle.lane_logs.specs.Names.{no_clock}
use Rattle.lane_logs.specs.Labels.{AreDrawn, IsDrawn, Labelled, allots, entries_in, put_within, steps_in}

pub record PenView : Type 0 where
  pub seat : SeatView
  pub log : List LogEntry
  -- for how many more entries
  pub room : ℕ

abbrev pub after_steps : SeatView → List ClockStep → SeatView
after_steps seat [] = seat
after_steps seat (step ∷ steps) = after_steps (after_step seat step) steps

-- a pen of no clock, which stands for one that nobody named
abbrev pub no_pen : PenView
no_pen = record {
  seat = record {
    clock = no_clock;
    number = 0;
    known = [];
  };
  log = [];
  room = 0;
}

-- the pen's seat made these steps, and its log has their events
pub record HasGone (labels : List Labelled) (old new : PenView) : Type 0 where
  pub seat : new.seat ≡ after_steps old.seat (steps_in labels)
  pub steps : own new.seat ≡ own old.seat ++ steps_in labels
  pub log : new.log ≡ old.log ++ entries_in labels
  pub room : new.room + length (entries_in labels) ≡ old.room
  pub keeps : Keeps old.seat new.seat

-- an event that is no call of an act
abbrev pub IsNoCall : Event → Type 0
IsNoCall (event.Call act) = ⊥
IsNoCall _ = Unit {0}

-- there is room for so many draws, with their entries, and for so many places
pub record MayGo (pen : PenView) (draws places : ℕ) : Type 0 where
  pub log : draws ≤ pen.room
  pub draws_left : step_count draw_count (own pen.seat) + draws ≤ most_draws
  pub places_left : step_count place_count (own pen.seat) + places ≤ most_draws

-- a note got a place of a lane, and was put there where the lane has a cell at it
pub record HasAllotted (script : ScriptModel) (lane : ℕ) (note : Note) (old new : PenView)
    : Type 0 where
  pub place : ℕ
  pub gone : HasGone (allots note.op lane place ∷ put_within script lane place note) old new

-- one call was made
pub record HasDrawnCall (script : ScriptModel) (call : Posted) (old new : PenView) : Type 0 where
  pub labels : List Labelled
  pub drawn : IsDrawn script call labels
  pub gone : HasGone labels old new

-- some calls were made, one after another
pub record HasDrawnCalls (script : ScriptModel) (calls : List Posted) (old new : PenView)
    : Type 0 where
  pub labels : List Labelled
  pub drawn : AreDrawn script calls labels
  pub gone : HasGone labels old new

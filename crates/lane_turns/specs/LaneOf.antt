-- The lane of a value in the table of turns, whichever it is (this project's own).
use Rattle.std.specs.Prelude.{ℕ, Bool, false, Some, None}
use Rattle.lane_clock.specs.Seats.{SeatView}
use Rattle.lane_turns.specs.Batons.{LaneView}
use Rattle.lane_turns.specs.LaneValues.{LaneValue, handlers, reactor}
use Rattle.lane_turns.specs.Pens.{no_pen}

-- what stands for the lane of an empty box
abbrev pub no_lane : LaneView
no_lane = record {
  lane = 0;
  pen = no_pen;
  place = 0;
  base = 0;
  running = false;
  missed = None;
}

abbrev pub lane_of : {H X : Type 0} → LaneValue H X → LaneView
lane_of (handlers (Some view)) = view.lane
lane_of (handlers None) = no_lane
lane_of (reactor (Some view)) = view.lane
lane_of (reactor None) = no_lane

abbrev pub seat_of : {H X : Type 0} → LaneValue H X → SeatView
seat_of value = (lane_of value).pen.seat

abbrev pub base_in : {H X : Type 0} → LaneValue H X → ℕ
base_in value = (lane_of value).base

abbrev pub runs_in : {H X : Type 0} → LaneValue H X → Bool
runs_in value = (lane_of value).running

abbrev pub place_in : {H X : Type 0} → LaneValue H X → ℕ
place_in value = (lane_of value).place

-- it is the reactor's, and that has failed
abbrev pub has_failed : {H X : Type 0} → LaneValue H X → Bool
has_failed (handlers held) = false
has_failed (reactor (Some view)) = view.proactor.tables.failed
has_failed (reactor None) = false

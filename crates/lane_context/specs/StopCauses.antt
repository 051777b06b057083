-- Why a call answers that the context is stopped (Asio reference, io_context::stop, ::stopped,
-- ::poll_one).
use Rattle.std.specs.Prelude.{◌≡◌, ◌≢◌, ◌⊎◌, ℕ, true, false, ◌==◌, List, [], ◌∷◌, ◌++◌, Option, Some, None, if◌then◌else◌}
use Rattle.lane_clock.specs.declared.found.Found.{Found}
use Rattle.lane_clock.specs.declared.step.ClockStep.{ClockStep}
use Rattle.lane_clock.specs.declared.step.ClockStep.TheVariants.{Load}
use Rattle.lane_clock.specs.Seats.{own}
use Rattle.lane_logs.specs.Stand.{shut}
use Rattle.lane_turns.specs.declared.standing.RoundNow.{RoundNow}
use Rattle.lane_turns.specs.Attempts.{WorkerState}
use Rattle.lane_turns.specs.LaneOf.{base_in, lane_of, seat_of}
use Rattle.lane_turns.specs.LaneValues.{IsBaton, LaneValue, Tries}
use Rattle.lane_turns.specs.ReactorPolling.{lane_half}
use Rattle.lane_turns.specs.Scanning.{GoesOn}
use Rattle.lane_turns.specs.Workers.{HasRead}

-- the stops that the context had when a round began; none where no round is open
abbrev pub round_stops : RoundNow → Option ℕ
round_stops round = if round.base == shut then None else Some round.base

-- by what was read no round is open, or the context was stopped since the round began
pub data IsOver (round : RoundNow) (found : Found) : Type 0 where
  no_round : round_stops round ≡ None → IsOver round found
  was_stopped : {stops : ℕ} → round_stops round ≡ Some stops → found.stops ≢ stops → IsOver round found

-- why a worker begins nothing behind its own read
pub data StopCause {H X : Type 0} (worker : WorkerState H X) (found : Found) : Type 0 where
  keeps_reactor : {value : LaneValue H X} → worker.kept ≡ Some value → StopCause worker found
  was_asked : worker.seat.stopped ≡ true → StopCause worker found
  round_over : IsOver worker.seat.round found → StopCause worker found

-- the last that the worker's own seat did was a read, by which it begins nothing
pub record StoppedByRead {H X : Type 0} (old new : WorkerState H X) : Type 0 where
  pub before : WorkerState H X
  pub since : GoesOn old before
  pub found : Found
  pub read : HasRead before.seat new.seat found
  pub cause : StopCause before found

-- the last that a lane did was a load
pub record HasLoadedLast {H X : Type 0} (value : LaneValue H X) (found : Found) : Type 0 where
  pub front : List ClockStep
  pub steps : own (seat_of value) ≡ front ++ Load found ∷ []

-- why a lane begins nothing: what it loaded last aren't the stops with which it may begin something,
-- which in step with the worker are those of the worker's round; or the reactor had failed
pub data LaneCause {H X : Type 0} (t : Tries H X) (value : LaneValue H X) (worker : WorkerState H X)
    : Type 0 where
  loaded_over : {found : Found} → HasLoadedLast value found → worker.seat.in_step ≡ true →
      IsOver worker.seat.round found → LaneCause t value worker
  other_round : {found : Found} → HasLoadedLast value found → found.stops ≢ base_in value →
      worker.seat.in_step ≡ false → LaneCause t value worker
  had_failed : (lane_half t.terms.names (lane_of value)).failed ≡ true → LaneCause t value worker

-- the last that the worker did was an attempt at a lane of this session, which begins nothing
pub record StoppedByLane {H X : Type 0} (t : Tries H X) (new : WorkerState H X) : Type 0 where
  pub value : LaneValue H X
  pub is : IsBaton t.terms value
  pub cause : LaneCause t value new

-- and so a call of `poll_one` was stopped
abbrev pub StoppedFor : {H X : Type 0} → Tries H X → WorkerState H X → WorkerState H X → Type 0
StoppedFor t old new = StoppedByRead old new ⊎ StoppedByLane t new

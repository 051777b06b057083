-- All workers of a context and the opener, and what holds of them between the opener's calls (Asio
-- reference, io_context; seats are this project's own).
use Rattle.std.specs.Prelude.{◌≡◌, ◌≢◌, ℕ, Bool, true, List, Option, Some, length, slice_get}
use Rattle.session_script.specs.Script.{ScriptModel}
use Rattle.turn_table.specs.Seated.{Lanes, Seated}
use Rattle.lane_clock.specs.Seats.{SeatView}
use Rattle.lane_logs.specs.declared.log.LogEntry.{LogEntry}
use Rattle.lane_logs.specs.Cuts.{EventsAreCuts}
use Rattle.lane_logs.specs.Knowing.{lists_of}
use Rattle.lane_logs.specs.SeatNumbers.{lane_count}
use Rattle.lane_logs.specs.Stand.{Stand}
use Rattle.lane_turns.specs.declared.run_end.RunEnd.{RunEnd}
use Rattle.lane_turns.specs.declared.run_end.RunEnd.TheVariants as end
use Rattle.lane_turns.specs.Attempts.{WorkerState}
use Rattle.lane_turns.specs.Benches.{AreInRound, AreWorkers}
use Rattle.lane_turns.specs.Gathering.{AreSeated, StandsForFirst, with_turns_below}
use Rattle.lane_turns.specs.LaneOf.{has_failed}
use Rattle.lane_turns.specs.LaneValues.{IsBaton, LaneValue, Terms}
use Rattle.lane_turns.specs.Openers.{OpenerView}

-- all workers, the caller's own last, and the opener
pub record WorkersView (H X : Type 0) : Type 0 where
  pub all : List (WorkerState H X)
  pub opener : OpenerView

module _ {H X : Type 0} where
  -- a worker's seat of the clock
  abbrev pub clock_seat : WorkerState H X → SeatView
  clock_seat worker = worker.seat.pen.seat

  abbrev pub base_kept : WorkerState H X → ℕ
  base_kept worker = worker.seat.round.base

  abbrev pub runs_kept : WorkerState H X → Bool
  runs_kept worker = worker.seat.round.running

  abbrev pub last_of : WorkerState H X → Option RunEnd
  last_of worker = worker.last

  -- what it drew itself: stops from outside of every handler
  abbrev pub log_of : WorkerState H X → List LogEntry
  log_of worker = worker.seat.pen.log

  -- the workers have their seats of the clock and of the table, each its number's
  pub record AreReady (script : ScriptModel) (lanes : Lanes) (all : List (WorkerState H X)) : Type 0
    where
      pub rows : AreWorkers clock_seat script all
      pub seats : AreSeated lanes all

  -- each knows the round that is now
  abbrev pub KnowTheRound : ScriptModel → Stand → List (WorkerState H X) → Type 0
  KnowTheRound script stand all = AreInRound base_kept runs_kept script stand all (length all)

  -- no worker met a fault of the reactor
  abbrev pub NoneFaulted : List (WorkerState H X) → Type 0
  NoneFaulted all = (k : ℕ) (one : WorkerState H X) → slice_get all k ≡ Some one →
      one.last ≢ Some end.Fault

-- the opener's events lie behind all that others did before, and before all that they do then
abbrev pub AreCuts : ScriptModel → OpenerView → Type 0
AreCuts script opener = EventsAreCuts script (lists_of opener.pen.seat)

-- a seat that stands for all numbers has all turns, and no other
pub record HasAllTurns (script : ScriptModel) (lanes : Lanes) (count : ℕ) (seat : Seated) : Type 0
  where
    pub first : Seated
    pub stands : StandsForFirst lanes count first
    pub is : seat ≡ with_turns_below (lane_count script) first

-- there was a lane's value of this session whose reactor had failed: its count of faults rose
pub record HadFailed {H X : Type 0} (t : Terms H X) : Type 0 where
  pub value : LaneValue H X
  pub is : IsBaton t value
  pub failed : has_failed value ≡ true

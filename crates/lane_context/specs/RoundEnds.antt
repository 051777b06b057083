-- How a round ends, and why (Asio reference, io_context::run, ::poll, ::stopped).
use Rattle.std.specs.Prelude.{◌≡◌, ◌≢◌, ◌⊎◌, ℕ, ◌+◌, ◌-◌, ◌<◌, List, Option, Some, None, length, map, slice_get}
use Rattle.session_script.specs.Script.{ScriptModel}
use Rattle.lane_clock.specs.declared.step.ClockStep.{ClockStep}
use Rattle.lane_turns.specs.declared.closing.Closing.{Closing}
use Rattle.lane_turns.specs.declared.closing.Closing.TheVariants as closing
use Rattle.lane_turns.specs.declared.closing_try.ClosingTry.{ClosingTry}
use Rattle.lane_turns.specs.declared.closing_try.ClosingTry.TheVariants as tried
use Rattle.lane_context.specs.declared.round_end.RoundEnd.{RoundEnd}
use Rattle.lane_context.specs.declared.round_end.RoundEnd.TheVariants as round
use Rattle.lane_logs.specs.Knowing.{lists_of}
use Rattle.lane_turns.specs.declared.run_end.RunEnd.{RunEnd}
use Rattle.lane_turns.specs.declared.run_end.RunEnd.TheVariants as end
use Rattle.lane_turns.specs.AllMeeting.{HaveMetAfterFault}
use Rattle.lane_turns.specs.AllWorkers.{HadFailed, KnowTheRound, NoneFaulted, clock_seat, log_of}
use Rattle.lane_turns.specs.Attempts.{WorkerState}
use Rattle.lane_turns.specs.Attending.{HasGoneOn}
use Rattle.lane_turns.specs.ClosingTries.{HasClosedRound}
use Rattle.lane_turns.specs.KeptSteps.{AllRemember}
use Rattle.lane_turns.specs.KnownFaults.{KnowsFault}
use Rattle.lane_turns.specs.LaneValues.{Terms, Tries}
use Rattle.lane_turns.specs.Openers.{OpenerView}
use Rattle.lane_turns.specs.Runs.{HasRun}
use Rattle.lane_turns.specs.Scanning.{SeatGoesOn}

-- the answer of `run` by which a round ends so
abbrev pub run_end_of : RoundEnd → RunEnd
run_end_of round.Ended = end.Ended
run_end_of round.Stopped = end.Stopped
run_end_of round.Polled = end.Idle
run_end_of round.Fault = end.Fault

-- how a round ends that was closed so, and what `run` answered then
abbrev pub end_by : Closing → RoundEnd
end_by closing.Ended = round.Ended
end_by closing.Stopped = round.Stopped
end_by closing.Polled = round.Polled

abbrev pub closing_after : RunEnd → Option Closing
closing_after end.Ended = Some closing.Ended
closing_after end.Stopped = Some closing.Stopped
closing_after end.Idle = Some closing.Polled
closing_after end.Fault = None

-- how it ends after a try, if it does
abbrev pub end_after : ClosingTry → Closing → Option RoundEnd
end_after tried.Closed how = Some (end_by how)
end_after tried.Refuted how = None
end_after tried.Failed how = Some round.Fault

-- the event of this end was drawn, as a load and looks bore out; after a fault nothing was
abbrev pub EndsRound : {H X : Type 0} → Terms H X → RoundEnd → OpenerView → OpenerView → Type 0
EndsRound t round.Ended old new = HasClosedRound t closing.Ended old new
EndsRound t round.Stopped old new = HasClosedRound t closing.Stopped old new
EndsRound t round.Polled old new = HasClosedRound t closing.Polled old new
EndsRound t round.Fault old new = HasGoneOn old new

module _ {H X : Type 0} where
  -- the last call of `run` of the caller's own worker, the last of all, answered so
  pub record OwnRanLast (t : Tries H X) (lanes : ℕ) (now : RunEnd) (olds news : List (WorkerState H X))
      : Type 0 where
    pub before : WorkerState H X
    pub after : WorkerState H X
    pub was : slice_get olds (length olds - 1) ≡ Some before
    pub is : slice_get news (length olds - 1) ≡ Some after
    pub from : WorkerState H X
    pub ran : WorkerState H X
    pub since : SeatGoesOn before.seat from.seat
    pub run : HasRun t lanes now from ran
    pub last : after.last ≡ ran.last

  -- the last ends of all other workers stay
  abbrev pub OtherLastsStay : List (WorkerState H X) → List (WorkerState H X) → Type 0
  OtherLastsStay olds news = (k : ℕ) (old new : WorkerState H X) → k + 1 < length olds →
      slice_get olds k ≡ Some old → slice_get news k ≡ Some new → new.last ≡ old.last

  -- a worker's last call ended by a fault of the reactor
  pub record OneFaulted (all : List (WorkerState H X)) : Type 0 where
    pub index : ℕ
    pub worker : WorkerState H X
    pub at : slice_get all index ≡ Some worker
    pub last : worker.last ≡ Some end.Fault

  -- and a worker knows that one came
  pub record OneKnowsFault (script : ScriptModel) (all : List (WorkerState H X)) : Type 0 where
    pub index : ℕ
    pub worker : WorkerState H X
    pub at : slice_get all index ≡ Some worker
    pub knows : KnowsFault script (clock_seat worker)

  -- why a round ends by a fault: a worker met it, or the reactor had failed
  abbrev pub FaultCame : Terms H X → List (WorkerState H X) → Type 0
  FaultCame t all = OneFaulted all ⊎ HadFailed t

  -- where one of these knew that the reactor had failed, all met
  abbrev pub MeetIfOneKnew : ScriptModel → (ℕ → List ClockStep) → List (WorkerState H X) → Type 0
  MeetIfOneKnew script lists all =
      (k : ℕ) (one : WorkerState H X) → slice_get all k ≡ Some one → KnowsFault script (clock_seat one) →
      HaveMetAfterFault script lists

  -- a round ended so, by what the opener and all workers did
  pub record HasEndedRound (t : Tries H X) (lanes : ℕ) (now : RoundEnd) (opener opener_now : OpenerView)
      (olds news : List (WorkerState H X)) : Type 0 where
    pub ended : EndsRound t.terms now opener opener_now
    pub knows : now ≡ round.Fault → KnowsFault t.terms.names.script opener_now.pen.seat
    pub came : now ≡ round.Fault → FaultCame t.terms news
    -- then all lanes and workers met, as they do at an event
    pub met : now ≡ round.Fault → HaveMetAfterFault t.terms.names.script (lists_of opener_now.pen.seat)
    pub none : now ≢ round.Fault → NoneFaulted news
    pub ran : now ≢ round.Fault → OwnRanLast t lanes (run_end_of now) olds news
    pub others : OtherLastsStay olds news
    -- nobody draws a stop
    pub logs : map log_of news ≡ map log_of olds
    pub remember : AllRemember clock_seat olds news
    pub rounds : KnowTheRound t.terms.names.script opener_now.stand news

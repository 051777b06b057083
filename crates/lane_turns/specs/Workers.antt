-- A worker's own seat and log: it stops the context from outside of every handler, at most once a
-- round, and reads what is outstanding (Asio reference, io_context::stop, ::stopped).
use Rattle.std.specs.Prelude.{◌≡◌, ℕ, ◌+◌, ◌≤◌, Bool, true, false, ◌&&◌, ◌||◌, ◌==◌, not, List, [], ◌∷◌, None, length, if◌then◌else◌}
use Rattle.asio_types.specs.declared.event.Event.TheVariants as event
use Rattle.session_script.specs.Script.{ScriptModel}
use Rattle.lane_clock.specs.declared.found.Change.TheVariants as change
use Rattle.lane_clock.specs.declared.found.Found.{Found}
use Rattle.lane_clock.specs.declared.step.ClockStep.{ClockStep}
use Rattle.lane_clock.specs.declared.step.ClockStep.TheVariants.{Load}
use Rattle.lane_clock.specs.Seats.{ClockId, Owns, SeatView, copy_seat, own}
use Rattle.lane_clock.specs.Steps.{draw_count, most_draws, place_count, step_count}
use Rattle.lane_logs.specs.Knowing.{joined_count}
use Rattle.lane_logs.specs.Labels.{shows, silent}
use Rattle.lane_logs.specs.SeatNumbers.{IsWorkerSeat, opener_seat}
use Rattle.lane_logs.specs.Stand.{base_of, shut, stand_of}
use Rattle.lane_logs.specs.WorkerLog.{IsWorkerLog, stops_drawn}
use Rattle.lane_turns.specs.declared.standing.RoundNow.{RoundNow}
use Rattle.lane_turns.specs.Batons.{opener_known}
use Rattle.lane_turns.specs.Meeting.{PenHasMet}
use Rattle.lane_turns.specs.Pens.{HasGone, PenView}

pub record WorkerView : Type 0 where
  pub pen : PenView
  -- what it keeps of where the rounds stand
  pub round : RoundNow
  -- whether it drew a stop in this round
  pub drew : Bool
  -- whether it called `stop` since the last restart
  pub stopped : Bool
  -- whether all lanes of which it heard in this round may begin something with the same stops
  pub in_step : Bool

-- how many stops it has drawn at most: one for each round that is closed, and one for this
abbrev pub stops_so_far : WorkerView → ℕ
stops_so_far view = if view.drew then view.round.closings + 1 else view.round.closings

-- what is kept of where the rounds stand, beside these steps of the opener: in step it has the stops
-- that they say, and it never has more rounds closed
pub record IsInStep (script : ScriptModel) (known : List ClockStep) (round : RoundNow) (in_step : Bool)
    : Type 0 where
  pub base_is : in_step ≡ true → round.base ≡ base_of script known
  pub closed : round.closings ≤ (stand_of script known).closings

-- a worker, whose log has nothing but stops from outside
pub record IsWorker (script : ScriptModel) (clock : ClockId) (view : WorkerView) : Type 0 where
  pub clock_is : view.pen.seat.clock ≡ clock
  pub number : IsWorkerSeat script view.pen.seat.number
  pub owns : Owns view.pen.seat view.pen.seat.number
  pub log : IsWorkerLog script (opener_known script view.pen.seat) (own view.pen.seat) view.pen.log
  -- what it knows of the opener its own joins took in
  pub known : joined_count (opener_seat script) (own view.pen.seat)
      ≡ length (opener_known script view.pen.seat)
  pub in_round : IsInStep script (opener_known script view.pen.seat) view.round view.in_step
  pub few : stops_drawn log.parts ≤ stops_so_far view
  -- room for a stop of each round
  pub room : length script.rounds ≤ stops_drawn log.parts + view.pen.room
  pub draws : step_count draw_count (own view.pen.seat) ≡ stops_drawn log.parts
  pub places : step_count place_count (own view.pen.seat) ≡ 0
  pub short : length script.rounds ≤ most_draws

-- the worker stopped the context: in a round that is open, by one draw, if it didn't yet
pub record HasStopped (old new : WorkerView) : Type 0 where
  pub drawn : Found
  pub gone : HasGone (shows (event.Stop None) change.Stop drawn ∷ []) old.pen new.pen
  pub round : new.round ≡ old.round
  pub drew : new.drew ≡ true
  pub stopped : new.stopped ≡ true
  pub in_step : new.in_step ≡ old.in_step

-- whether it stops the context by a draw
abbrev pub may_draw_stop : WorkerView → Bool
may_draw_stop view = view.in_step && (not (view.drew) && not (view.round.base == shut))

-- it remembers that it was asked to stop, and nothing else changes
abbrev pub remembers_stop : WorkerView → WorkerView
remembers_stop view = record view { stopped = true }

abbrev pub Stops : WorkerView → WorkerView → Bool → Type 0
Stops old new true = HasStopped old new
Stops old new false = new ≡ remembers_stop old

-- it read the clock word
pub record HasRead (old new : WorkerView) (found : Found) : Type 0 where
  pub gone : HasGone (silent (Load found) ∷ []) old.pen new.pen
  pub round : new.round ≡ old.round
  pub drew : new.drew ≡ old.drew
  pub stopped : new.stopped ≡ old.stopped
  pub in_step : new.in_step ≡ old.in_step

-- the stop word counts as set
abbrev pub is_set : WorkerView → Found → Bool
is_set view found = view.stopped || not (found.stops == view.round.base)

-- the worker took in what a lane did, which may begin something with these stops; its own are those of
-- its round, whatever the lane's are
pub record HasHeard (lane : SeatView) (base : ℕ) (old new : WorkerView) : Type 0 where
  pub met : PenHasMet (copy_seat lane) old.pen new.pen
  pub round : new.round ≡ old.round
  pub drew : new.drew ≡ old.drew
  pub stopped : new.stopped ≡ old.stopped
  pub in_step : new.in_step ≡ (old.in_step && (base == old.round.base))

-- a restart that the worker didn't know came
abbrev pub restarts_since : RoundNow → RoundNow → Bool
restarts_since before after =
    after.restarted && not ((before.closings == after.closings) && before.restarted)

-- the worker in the round that it learned of
abbrev pub in_new_round : WorkerView → PenView → RoundNow → WorkerView
in_new_round view pen round = record {
  pen = pen;
  round = round;
  drew = view.drew && (view.round.closings == round.closings);
  stopped = view.stopped && not (restarts_since view.round round);
  in_step = true;
}

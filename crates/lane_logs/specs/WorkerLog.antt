-- A worker's log: it draws nothing but stops from outside of every handler, at most one a round
-- (Asio reference, io_context::stop). Lists of parts have the newest first.
use Rattle.std.specs.Prelude.{◌≡◌, ℕ, ◌+◌, ◌≤◌, true, List, [], ◌∷◌, ◌++◌, None}
use Rattle.asio_types.specs.declared.event.Event.TheVariants as event
use Rattle.session_script.specs.Script.{ScriptModel}
use Rattle.lane_clock.specs.declared.found.Change.TheVariants as change
use Rattle.lane_clock.specs.declared.found.Found.{Found}
use Rattle.lane_clock.specs.declared.step.ClockStep.{ClockStep}
use Rattle.lane_logs.specs.declared.log.LogEntry.{LogEntry}
use Rattle.lane_logs.specs.Knowing.{known_steps}
use Rattle.lane_logs.specs.Labels.{Labelled, silent, shows, entries_in, steps_in}
use Rattle.lane_logs.specs.OpenerLog.{IsRestingStep}
use Rattle.lane_logs.specs.SeatNumbers.{opener_seat}
use Rattle.lane_logs.specs.Stand.{Stand, is_round_open, stand_of}

pub data WorkerPart : Type 0 where
  -- a load, a look or a join
  waiting : (step : ClockStep) → WorkerPart
  stopped : (drawn : Found) → WorkerPart

abbrev pub worker_label : WorkerPart → Labelled
worker_label (waiting step) = silent step
worker_label (stopped drawn) = shows (event.Stop None) change.Stop drawn

abbrev pub labels_of_worker : List WorkerPart → List Labelled
labels_of_worker [] = []
labels_of_worker (part ∷ parts) = labels_of_worker parts ++ worker_label part ∷ []

abbrev pub stops_drawn : List WorkerPart → ℕ
stops_drawn [] = 0
stops_drawn (waiting step ∷ parts) = stops_drawn parts
stops_drawn (stopped drawn ∷ parts) = stops_drawn parts + 1

-- the opener's steps as far as they are known
module _ (script : ScriptModel) (opener : List ClockStep) where
  -- where the rounds stood by what the worker knew of the opener after these parts
  abbrev pub stand_known : List WorkerPart → Stand
  stand_known parts =
      stand_of script (known_steps opener (opener_seat script) (steps_in (labels_of_worker parts)))

  -- a round is open, and the worker has stopped no more than each of those before it
  pub record IsStoppedPart (parts : List WorkerPart) : Type 0 where
    pub round : is_round_open script (stand_known parts) ≡ true
    pub once : stops_drawn parts ≤ (stand_known parts).closings

  abbrev pub MayFollowStopped : List WorkerPart → WorkerPart → Type 0
  MayFollowStopped parts (waiting step) = IsRestingStep step
  MayFollowStopped parts (stopped drawn) = IsStoppedPart parts

  abbrev pub AreWorkerParts : List WorkerPart → Type 0
  AreWorkerParts [] = Unit {0}
  AreWorkerParts (part ∷ parts) = AreWorkerParts parts × MayFollowStopped parts part

  -- the worker's own steps are such parts, and these are their events
  pub record IsWorkerLog (own_steps : List ClockStep) (entries : List LogEntry) : Type 0 where
    pub parts : List WorkerPart
    pub are : AreWorkerParts parts
    pub steps : own_steps ≡ steps_in (labels_of_worker parts)
    pub shown : entries ≡ entries_in (labels_of_worker parts)

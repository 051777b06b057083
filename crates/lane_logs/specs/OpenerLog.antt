-- The opener's log: the calls of `open`, and then round by round its restart, if it has one, and its
-- closing, each at the position that was drawn (Asio reference, io_context::run, ::poll, ::stopped,
-- ::restart). Lists of parts have the newest first.
use Rattle.std.specs.Prelude.{◌≡◌, ◌≢◌, ℕ, ◌<◌, ◌≤◌, true, false, List, [], ◌∷◌, ◌++◌, Option, None, Contains, map, slice_index}
use Rattle.asio_types.specs.declared.event.Event.{Event}
use Rattle.asio_types.specs.declared.event.Event.TheVariants as event
use Rattle.session_script.specs.Script.{ScriptModel, opening_of}
use Rattle.strand_core.specs.declared.posted.Posted.{Posted}
use Rattle.strand_core.specs.Execution.{AnyMark, AreCalls}
use Rattle.lane_clock.specs.declared.found.Change.{Change}
use Rattle.lane_clock.specs.declared.found.Change.TheVariants as change
use Rattle.lane_clock.specs.declared.found.Found.{Found}
use Rattle.lane_clock.specs.declared.note.Note.{Note}
use Rattle.lane_clock.specs.declared.step.ClockStep.{ClockStep}
use Rattle.lane_clock.specs.declared.step.ClockStep.TheVariants.{Draw, Load, Place, Put, Look, Join}
use Rattle.lane_map.specs.LaneNumbers.{cells_of, reactor_lane}
use Rattle.lane_logs.specs.declared.log.LogEntry.{LogEntry}
use Rattle.lane_logs.specs.Cuts.{HasStarted, NoneStops}
use Rattle.lane_logs.specs.Knowing.{known_steps}
use Rattle.lane_logs.specs.Labels.{Labelled, silent, shows, AreDrawn, entries_in, steps_in}
use Rattle.lane_logs.specs.SeatNumbers.{lane_count, opener_seat}
use Rattle.lane_logs.specs.Stand.{Stand, is_round_open, is_running_round, stand_of, wants_restart}

-- a look of the opener at a cell, and what that held
pub record Looked : Type 0 where
  pub lane : ℕ
  pub place : ℕ
  pub held : Option Note

abbrev pub look_label : Looked → Labelled
look_label looked = silent (Look looked.lane looked.place looked.held)

-- a round is closed by what a load found, and where it was polled by looks after that
pub record ClosedPart : Type 0 where
  pub load : Found
  pub looks : List Looked
  pub shown : Event
  pub drawn : Found

pub data OpenerPart : Type 0 where
  -- a load, a look or a join
  resting : (step : ClockStep) → OpenerPart
  opened : (calls : List Posted) (labels : List Labelled) → OpenerPart
  restarted : (drawn : Found) → OpenerPart
  closed : (part : ClosedPart) → OpenerPart

-- running out of work stops the context
abbrev pub closing_change : Event → Change
closing_change event.Ended = change.Stop
closing_change _ = change.Same

abbrev pub opener_labels : OpenerPart → List Labelled
opener_labels (resting step) = silent step ∷ []
opener_labels (opened calls labels) = labels
opener_labels (restarted drawn) = shows event.Restart change.Same drawn ∷ []
opener_labels (closed part) =
    silent (Load part.load) ∷ (map look_label part.looks
    ++ shows part.shown (closing_change part.shown) part.drawn ∷ [])

abbrev pub labels_of_opener : List OpenerPart → List Labelled
labels_of_opener [] = []
labels_of_opener (part ∷ parts) = labels_of_opener parts ++ opener_labels part

abbrev pub opener_steps : List OpenerPart → List ClockStep
opener_steps parts = steps_in (labels_of_opener parts)

-- a step by itself: no draw, no place and no put
abbrev pub IsRestingStep : ClockStep → Type 0
IsRestingStep (Draw shown changes found) = ⊥
IsRestingStep (Load found) = Unit {0}
IsRestingStep (Place lane place) = ⊥
IsRestingStep (Put lane place note) = ⊥
IsRestingStep (Look lane place held) = Unit {0}
IsRestingStep (Join counts) = Unit {0}

-- the opener's own list and what is known of the others
module _ (script : ScriptModel) (lists : ℕ → List ClockStep) where
  abbrev pub stand_after : List OpenerPart → Stand
  stand_after parts = stand_of script (opener_steps parts)

  -- what the opener knew of a number after these parts
  abbrev pub others_after : List OpenerPart → ℕ → List ClockStep
  others_after parts n = known_steps (lists n) n (opener_steps parts)

  -- the reactor hasn't failed in what the opener took in
  abbrev pub ReactorWorks : List OpenerPart → Type 0
  ReactorWorks parts = NoneStops (others_after parts (reactor_lane script))

  -- all that a lane was noted was executed or taken, up to its next place; and where it has a cell
  -- there, that was looked at and was empty
  pub record IsPolledLane (parts : List OpenerPart) (looks : List Looked) (lane : ℕ)
      : Type 0 where
    pub next : ℕ
    pub started : (place : ℕ) → place < next → HasStarted (others_after parts lane) lane place
    pub empty : next < slice_index (cells_of script) lane →
        Contains looks (record { lane = lane; place = next; held = None })

  -- nothing stopped the context in this round, and no work is left
  pub record ClosesEnded (parts : List OpenerPart) (load : Found) : Type 0 where
    pub going : load.stops ≡ (stand_after parts).base
    pub idle : load.work ≡ 0

  -- nothing stopped it, work is left, and no lane has anything to begin or to take
  pub record ClosesPolled (parts : List OpenerPart) (load : Found) (looks : List Looked)
      : Type 0 where
    pub polls : is_running_round script (opener_steps parts) ≡ false
    pub going : load.stops ≡ (stand_after parts).base
    pub left : 1 ≤ load.work
    pub lanes : (lane : ℕ) → lane < lane_count script → IsPolledLane parts looks lane

  -- which event closes a round
  abbrev pub Closes : List OpenerPart → ClosedPart → Event → Type 0
  Closes parts part event.Ended = ClosesEnded parts part.load
  Closes parts part event.Stopped = part.load.stops ≢ (stand_after parts).base
  Closes parts part event.Polled = ClosesPolled parts part.load part.looks
  Closes parts part _ = ⊥

  pub record IsClosedPart (parts : List OpenerPart) (part : ClosedPart) : Type 0 where
    pub round : is_round_open script (stand_after parts) ≡ true
    pub working : ReactorWorks parts
    pub closes : Closes parts part part.shown

  pub record IsRestartedPart (parts : List OpenerPart) : Type 0 where
    pub opened : (stand_after parts).opening ≡ 0
    pub wanted : wants_restart script (stand_after parts) ≡ true
    pub working : ReactorWorks parts

  -- the calls of `open` come first
  pub record IsOpenedPart (parts : List OpenerPart) (calls : List Posted) (labels : List Labelled)
      : Type 0 where
    pub first : entries_in (labels_of_opener parts) ≡ []
    pub acts : AreCalls script AnyMark (opening_of script) calls
    pub drawn : AreDrawn script calls labels

  abbrev pub MayFollowOpened : List OpenerPart → OpenerPart → Type 0
  MayFollowOpened parts (resting step) = IsRestingStep step
  MayFollowOpened parts (opened calls labels) = IsOpenedPart parts calls labels
  MayFollowOpened parts (restarted drawn) = IsRestartedPart parts
  MayFollowOpened parts (closed part) = IsClosedPart parts part

  abbrev pub AreOpenerParts : List OpenerPart → Type 0
  AreOpenerParts [] = Unit {0}
  AreOpenerParts (part ∷ parts) = AreOpenerParts parts × MayFollowOpened parts part

  -- the opener's own steps are such parts, and these are their events
  pub record IsOpenerLog (entries : List LogEntry) : Type 0 where
    pub parts : List OpenerPart
    pub are : AreOpenerParts parts
    pub steps : lists (opener_seat script) ≡ opener_steps parts
    pub shown : entries ≡ entries_in (labels_of_opener parts)

-- Turns of the reactor: what its proactor keeps between them, and what holds of its lane whoever
-- takes it (Asio reference, Overview, "The Proactor Design Pattern").
use Rattle.std.specs.Prelude.{◌≡◌, ℕ, ◌≤◌, Bool, true, false, List, [], ◌∷◌, Option}
use Rattle.asio_types.specs.Faults.{Rose}
use Rattle.asio_types.specs.declared.event.Event.{Event}
use Rattle.history_rules.specs.Legal.{reactor_after}
use Rattle.history_rules.specs.State.{ReactorHalf}
use Rattle.reactor_trait.specs.Reactor.{Outside, ReactorState}
use Rattle.proactor_core.specs.Proactor.{ProactorView}
use Rattle.reactor_turns.specs.Ahead.{IsHalfOf, events_ahead}
use Rattle.reactor_turns.specs.Turned.{ReactorKeepsTime, IsTelling, IsTurned}
use Rattle.lane_clock.specs.declared.found.Change.{Change}
use Rattle.lane_clock.specs.declared.found.Found.{Found}
use Rattle.lane_clock.specs.Seats.{ClockId}
use Rattle.lane_map.specs.LaneNumbers.{reactor_lane}
use Rattle.lane_logs.specs.declared.log.LogEntry.{LogEntry}
use Rattle.lane_logs.specs.Half.{half_of}
use Rattle.lane_logs.specs.Labels.{Labelled, shows}
use Rattle.lane_logs.specs.Names.{SessionNames}
use Rattle.lane_logs.specs.Parts.{TurnEnd, end_labels, fault_label, is_failing}
use Rattle.lane_logs.specs.ReactorTurns.{AreTold, EndsTurn}
use Rattle.lane_turns.specs.Batons.{IsLane, LaneView}
use Rattle.lane_turns.specs.Pens.{HasGone, MayGo, PenView}

-- the reactor's half to which a log leads
abbrev pub log_half : SessionNames → List LogEntry → ReactorHalf
log_half names log = half_of names.script names.told log

-- room for all that the reactor may still show
abbrev pub HasTurnRoom : SessionNames → PenView → Type 0
HasTurnRoom names pen =
    MayGo pen (events_ahead names.script (log_half names pen.log))
    (events_ahead names.script (log_half names pen.log))

-- a turn is under way: of what completes in it something may be left to tell
pub record IsMidTurn {X : Type 0} (names : SessionNames) (state : X → ReactorState)
    (told : X → Option Outside) (pen : PenView) (view : ProactorView X) : Type 0 where
  pub script : view.script ≡ names.script
  pub in_step : ReactorKeepsTime names.told (log_half names pen.log) (state view.reactor)
      (told view.reactor)
  pub telling : IsTelling state told (log_half names pen.log) view
  pub is_half : IsHalfOf names.script (log_half names pen.log)
  pub room : HasTurnRoom names pen

-- completions were told, one after another
pub record HasTold (names : SessionNames) (old new : PenView) : Type 0 where
  pub labels : List Labelled
  pub told_so : AreTold names.script names.told (log_half names old.log) labels
  pub gone : HasGone labels old new

-- a proactor between its turns, at this half; the reactor's count of faults is the one that is
-- named, and above it where it has failed
pub record KeepsTurns {X : Type 0} (names : SessionNames) (state : X → ReactorState)
    (told : X → Option Outside) (faults : X → ℕ) (named : ℕ) (half : ReactorHalf)
    (view : ProactorView X) : Type 0 where
  pub script : view.script ≡ names.script
  pub in_step : ReactorKeepsTime names.told half (state view.reactor) (told view.reactor)
  pub turned : view.tables.failed ≡ false → IsTurned state told half view
  pub failed : half.failed ≡ view.tables.failed
  pub is_half : IsHalfOf names.script half
  pub least : named ≤ faults view.reactor
  pub stood : view.tables.failed ≡ false → faults view.reactor ≡ named
  pub rose : view.tables.failed ≡ true → Rose named (faults view.reactor)

-- a turn began by this event, and ended
pub record HasTurned (names : SessionNames) (shown : Event) (changes : Change) (fails : Bool)
    (old new : PenView) : Type 0 where
  pub drawn : Found
  pub end : TurnEnd
  pub failing : is_failing end ≡ fails
  pub ends : EndsTurn names.script names.told
      (reactor_after names.script names.told (log_half names old.log) shown) end
  pub gone : HasGone (shows shown changes drawn ∷ end_labels end) old new

-- the reactor failed before anything of a turn
pub record HasFailedAlone (old new : PenView) : Type 0 where
  pub drawn : Found
  pub gone : HasGone (fault_label drawn ∷ []) old new

-- the reactor's lane
pub record ReactorView (X : Type 0) : Type 0 where
  pub lane : LaneView
  pub proactor : ProactorView X

pub record IsReactorBaton {X : Type 0} (names : SessionNames) (state : X → ReactorState)
    (told : X → Option Outside) (faults : X → ℕ) (named : ℕ) (clock : ClockId)
    (view : ReactorView X) : Type 0 where
  pub is_lane : IsLane names clock view.lane
  pub last : view.lane.lane ≡ reactor_lane names.script
  pub keeps : KeepsTurns names state told faults named (log_half names view.lane.pen.log)
      view.proactor
  pub room : HasTurnRoom names view.lane.pen

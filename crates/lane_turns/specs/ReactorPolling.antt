-- What one attempt at the reactor's lane came to, and what steps it made of it (Asio reference,
-- io_context::poll_one; Overview, "The Proactor Design Pattern").
use Rattle.std.specs.Prelude.{◌≡◌, ◌≢◌, ◌⊎◌, ℕ, ◌+◌, ◌≤◌, Bool, true, false, List, [], ◌∷◌, ◌++◌, if◌then◌else◌}
use Rattle.asio_types.specs.Faults.{Rose}
use Rattle.history_rules.specs.Legal.{reactor_after}
use Rattle.history_rules.specs.State.{ReactorHalf}
use Rattle.history_rules.specs.Time.{pending_count}
use Rattle.proactor_core.specs.Proactor.{ProactorView}
use Rattle.lane_clock.specs.declared.found.Found.{Found}
use Rattle.lane_clock.specs.declared.note.Note.{Note}
use Rattle.lane_clock.specs.declared.step.ClockStep.TheVariants.{Load}
use Rattle.lane_logs.specs.Half.{held_guards}
use Rattle.lane_logs.specs.Labels.{Labelled, silent}
use Rattle.lane_logs.specs.Names.{SessionNames}
use Rattle.lane_logs.specs.Parts.{FailedPart, TurnPart, TurnStart, failed, is_failing, labels_in, looks_empty, looks_full, takes_place, turned}
use Rattle.lane_logs.specs.ReactorTurns.{EndsTurn, MayStartTurn, may_take, start_event}
use Rattle.lane_turns.specs.declared.one.One.{One}
use Rattle.lane_turns.specs.declared.one.One.TheVariants as one
use Rattle.lane_turns.specs.Batons.{LaneView}
use Rattle.lane_turns.specs.Pens.{HasGone, PenView}
use Rattle.lane_turns.specs.Polling.{left_labels, missed_too, place_on, with_pen}
use Rattle.lane_turns.specs.Turning.{log_half}

-- the reactor's half to which the lane's log leads
abbrev pub lane_half : SessionNames → LaneView → ReactorHalf
lane_half names lane = log_half names lane.pen.log

-- the lane after a turn that began so
abbrev pub turned_on : TurnStart → LaneView → PenView → LaneView
turned_on start view pen = if takes_place start then place_on view pen else with_pen view pen

-- the labels of a look that saw nothing, if the lane has a cell there, and of the load behind it
abbrev pub idle_labels : SessionNames → LaneView → Found → List Labelled
idle_labels names lane load =
    looks_empty names.script lane.lane lane.place ++ silent (Load load) ∷ []

-- a turn was made, which the reactor ended whole or in which it failed
pub record TurnedNext (names : SessionNames) (fails : Bool) (old new : LaneView) : Type 0 where
  pub works : (lane_half names old).failed ≡ false
  pub part : TurnPart
  pub at : part.place ≡ old.place
  pub going : part.load.stops ≡ old.base
  pub starts : MayStartTurn names.script (lane_half names old) old.running part.load part.start
  pub failing : is_failing part.end ≡ fails
  pub ends : EndsTurn names.script names.told
      (reactor_after names.script names.told (lane_half names old) (start_event part.start)) part.end
  pub gone : HasGone (labels_in names.script old.lane (turned part)) old.pen new.pen
  pub moved : new ≡ turned_on part.start old new.pen

-- time may pass where a load finds nothing else outstanding: the round runs, and something is
-- pending
pub record MayWait (names : SessionNames) (lane : LaneView) : Type 0 where
  pub works : (lane_half names lane).failed ≡ false
  pub runs : lane.running ≡ true
  pub pending : 1 ≤ pending_count (lane_half names lane)

-- no other work is outstanding than what is pending and what guards hold
abbrev pub IsIdleWork : SessionNames → LaneView → ℕ → Type 0
IsIdleWork names lane work =
    work ≡ pending_count (lane_half names lane) + held_guards (lane_half names lane)

-- the reactor failed before its time moved
pub record FailedNext (names : SessionNames) (old new : LaneView) : Type 0 where
  pub waits : MayWait names old
  pub part : FailedPart
  pub at : part.place ≡ old.place
  pub going : part.load.stops ≡ old.base
  pub idle : IsIdleWork names old part.load.work
  pub gone : HasGone (labels_in names.script old.lane (failed part)) old.pen new.pen
  pub moved : new ≡ with_pen old new.pen

-- no request was seen, and time may not pass: the round doesn't run, or nothing is pending
pub record FoundNoRequest (names : SessionNames) (old new : LaneView) : Type 0 where
  pub works : (lane_half names old).failed ≡ false
  pub why : (old.running ≡ false) ⊎ (pending_count (lane_half names old) ≡ 0)
  pub gone : HasGone (looks_empty names.script old.lane old.place) old.pen new.pen
  pub moved : new ≡ with_pen old new.pen

-- or other work is outstanding
pub record FoundOtherWork (names : SessionNames) (old new : LaneView) : Type 0 where
  pub waits : MayWait names old
  pub load : Found
  pub going : load.stops ≡ old.base
  pub work : ¬ IsIdleWork names old load.work
  pub gone : HasGone (idle_labels names old load) old.pen new.pen
  pub moved : new ≡ with_pen old new.pen

-- the context is stopped: a request that may be taken was left, or time was
pub record LeftRequest (names : SessionNames) (old new : LaneView) : Type 0 where
  pub works : (lane_half names old).failed ≡ false
  pub note : Note
  pub load : Found
  pub request : may_take names.script (lane_half names old) note.op ≡ true
  pub stopped : load.stops ≢ old.base
  pub gone : HasGone (left_labels old.lane old.place note load) old.pen new.pen
  pub moved : new ≡ with_pen old new.pen

pub record LeftTime (names : SessionNames) (old new : LaneView) : Type 0 where
  pub waits : MayWait names old
  pub load : Found
  pub stopped : load.stops ≢ old.base
  pub gone : HasGone (idle_labels names old load) old.pen new.pen
  pub moved : new ≡ with_pen old new.pen

-- or the reactor had failed before
pub record HadFailed (names : SessionNames) (old new : LaneView) : Type 0 where
  pub load : Found
  pub failed : (lane_half names old).failed ≡ true
  pub gone : HasGone (silent (Load load) ∷ []) old.pen new.pen
  pub moved : new ≡ with_pen old new.pen

-- what was seen at the next place is no request that may be taken; that is found by the look alone
pub record MissedRequest (names : SessionNames) (op : ℕ) (old new : LaneView) : Type 0 where
  pub works : (lane_half names old).failed ≡ false
  pub note : Note
  pub it : note.op ≡ op
  pub none : may_take names.script (lane_half names old) op ≡ false
  pub gone : HasGone (looks_full old.lane old.place note) old.pen new.pen
  pub moved : new ≡ missed_too old new.pen op

-- what an answer says of the lane, and of its proactor before and after
module _ {X : Type 0} (names : SessionNames) (faults : X → ℕ) where
  abbrev pub TurnCameTo : One → LaneView → LaneView → ProactorView X → ProactorView X → Type 0
  TurnCameTo (one.Ran op mark) old new before after = ⊥
  TurnCameTo one.Turned old new before after =
      TurnedNext names false old new × (faults after.reactor ≡ faults before.reactor)
  TurnCameTo one.Nothing old new before after =
      (FoundNoRequest names old new ⊎ FoundOtherWork names old new) × (after ≡ before)
  TurnCameTo one.Stopped old new before after =
      (LeftRequest names old new ⊎ (LeftTime names old new ⊎ HadFailed names old new))
      × (after ≡ before)
  TurnCameTo one.Fault old new before after =
      (TurnedNext names true old new ⊎ FailedNext names old new)
      × Rose (faults before.reactor) (faults after.reactor)
  TurnCameTo (one.Missing op) old new before after =
      MissedRequest names op old new × (after ≡ before)

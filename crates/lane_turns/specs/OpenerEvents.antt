-- What the opener draws: the calls of `open`, and of each round its restart and its closing (Asio
-- reference, asio::post, io_context::run, ::poll, ::restart).
use Rattle.std.specs.Prelude.{◌≡◌, ℕ, ◌+◌, true, false, List, [], ◌∷◌, ◌++◌, length, map}
use Rattle.asio_types.specs.declared.event.Event.TheVariants as event
use Rattle.session_script.specs.Script.{ScriptModel, opening_of}
use Rattle.lane_clock.specs.declared.found.Change.TheVariants as change
use Rattle.lane_clock.specs.declared.found.Found.{Found}
use Rattle.lane_clock.specs.declared.step.ClockStep.TheVariants.{Load}
use Rattle.lane_logs.specs.Labels.{Labelled, shows, silent}
use Rattle.lane_logs.specs.OpenerLog.{Looked, closing_change, look_label}
use Rattle.lane_logs.specs.Calls.{called_each}
use Rattle.lane_turns.specs.declared.closing.Closing.{Closing}
use Rattle.lane_turns.specs.Closing.{BearsOut, Refutes, closing_event}
use Rattle.lane_turns.specs.Openers.{OpenerView, round_of}
use Rattle.lane_turns.specs.Pens.{HasDrawnCalls, HasGone}

-- the calls of `open` were made
pub record HasOpened (script : ScriptModel) (old new : OpenerView) : Type 0 where
  pub drawn : HasDrawnCalls script (called_each (opening_of script)) old.pen new.pen
  pub stand : new.stand ≡ record old.stand { opening = 0 }

-- the context was restarted
pub record HasRestarted (old new : OpenerView) : Type 0 where
  pub drawn : Found
  pub gone : HasGone (shows event.Restart change.Same drawn ∷ []) old.pen new.pen
  pub stand : new.stand ≡ record old.stand { restarted = true; base = drawn.stops }

-- the clock word was read, and nothing else was done
pub record HasReadAlone (old new : OpenerView) : Type 0 where
  pub found : Found
  pub gone : HasGone (silent (Load found) ∷ []) old.pen new.pen
  pub stand : new.stand ≡ old.stand

-- a load, and looks behind it
abbrev pub weighing_labels : Found → List Looked → List Labelled
weighing_labels found looks = silent (Load found) ∷ map look_label looks

-- and the event that closes a round
abbrev pub closing_labels : Found → List Looked → Closing → Found → List Labelled
closing_labels found looks closing drawn =
    silent (Load found) ∷ (map look_label looks
    ++ shows (closing_event closing) (closing_change (closing_event closing)) drawn ∷ [])

-- a round was closed, as a load and looks bore out
pub record HasClosed (script : ScriptModel) (places : List ℕ) (closing : Closing)
    (old new : OpenerView) : Type 0 where
  pub found : Found
  pub looks : List Looked
  pub drawn : Found
  pub bears : BearsOut script places (length places) (round_of script old.stand) found looks
      closing
  pub gone : HasGone (closing_labels found looks closing drawn) old.pen new.pen
  pub stand : new.stand ≡ record old.stand { closings = old.stand.closings + 1; restarted = false }

-- a round wasn't closed, since a load or a look refuted the closing
pub record HasWaited (script : ScriptModel) (closing : Closing) (old new : OpenerView) : Type 0 where
  pub found : Found
  pub looks : List Looked
  pub refuted : Refutes (round_of script old.stand) found looks closing
  pub gone : HasGone (weighing_labels found looks) old.pen new.pen
  pub stand : new.stand ≡ old.stand

-- What one attempt at a lane on which handlers execute came to, and what steps it made of it (Asio
-- reference, io_context::poll_one).
use Rattle.std.specs.Prelude.{◌≡◌, ◌≢◌, ℕ, ◌+◌, List, [], ◌∷◌, ◌++◌, Option, Some, None, true}
use Rattle.std.specs.Option.{option_or}
use Rattle.op_handlers.specs.Marks.{Marks}
use Rattle.session_script.specs.Script.{ScriptModel}
use Rattle.strand_core.specs.Answer.{CanExecute}
use Rattle.strand_core.specs.Execution.{IsWholeExecution}
use Rattle.strand_core.specs.Hands.{HasRunMark, Held, begins_among, held_at, left_at}
use Rattle.strand_core.specs.Room.{room_for}
use Rattle.lane_clock.specs.declared.found.Found.{Found}
use Rattle.lane_clock.specs.declared.note.Note.{Note}
use Rattle.lane_clock.specs.declared.step.ClockStep.TheVariants.{Load}
use Rattle.lane_logs.specs.Labels.{AreDrawn, Labelled, silent}
use Rattle.lane_logs.specs.Parts.{ExecutedPart, executed, labels_in, looks_empty, looks_full}
use Rattle.lane_turns.specs.declared.one.One.{One}
use Rattle.lane_turns.specs.declared.one.One.TheVariants as one
use Rattle.lane_turns.specs.Batons.{LaneView}
use Rattle.lane_turns.specs.Pens.{HasGone, PenView}

-- as many calls as no execution of a script makes more
abbrev pub most_made : ScriptModel → ℕ
most_made script = room_for script (λ op. true)

-- the lane after steps of its pen alone
abbrev pub with_pen : LaneView → PenView → LaneView
with_pen view pen = record {
  lane = view.lane;
  pen = pen;
  place = view.place;
  base = view.base;
  running = view.running;
  missed = view.missed;
}

-- and after one more note that was executed or taken
abbrev pub place_on : LaneView → PenView → LaneView
place_on view pen = record {
  lane = view.lane;
  pen = pen;
  place = view.place + 1;
  base = view.base;
  running = view.running;
  missed = view.missed;
}

-- and after a miss, of which the first is kept
abbrev pub missed_too : LaneView → PenView → ℕ → LaneView
missed_too view pen op = record {
  lane = view.lane;
  pen = pen;
  place = view.place;
  base = view.base;
  running = view.running;
  missed = option_or view.missed (Some op);
}

-- a look at a place of a lane, where the lane has a cell there
abbrev pub looks_at : ScriptModel → ℕ → ℕ → Option Note → List Labelled
looks_at script lane place None = looks_empty script lane place
looks_at script lane place (Some note) = looks_full lane place note

-- the labels of a look that saw a note, and of the load behind it
abbrev pub left_labels : ℕ → ℕ → Note → Found → List Labelled
left_labels lane place note load = looks_full lane place note ++ silent (Load load) ∷ []

-- the operation of the note at the next place executed, and its handler answered this mark
pub record RanNext {H : Type 0} (marks : H → Marks) (op mark : ℕ) (old new : LaneView)
    (held left : Held H) : Type 0 where
  pub part : ExecutedPart
  pub it : part.note.op ≡ op
  pub at : part.place ≡ old.place
  pub going : part.load.stops ≡ old.base
  pub whole : IsWholeExecution held.script (HasRunMark marks held) part.note.op part.note.code
      part.note.size part.calls
  pub answered : mark ≡ whole.mark
  pub drawn : AreDrawn held.script part.calls part.labels
  pub gone : HasGone (labels_in held.script old.lane (executed part)) old.pen new.pen
  pub moved : new ≡ place_on old new.pen
  pub spent : (n : ℕ) → held_at left n ≡ left_at (begins_among n part.calls) (held_at held n)
  pub script : left.script ≡ held.script

-- the lane has no cell at its next place, or that was empty
pub record FoundNone {H : Type 0} (old new : LaneView) (held left : Held H) : Type 0 where
  pub gone : HasGone (looks_empty held.script old.lane old.place) old.pen new.pen
  pub moved : new ≡ with_pen old new.pen
  pub same : left ≡ held

-- what was seen at the next place can be executed, and was left, since the context is stopped
pub record StoppedNext {H : Type 0} (old new : LaneView) (held left : Held H) : Type 0 where
  pub note : Note
  pub load : Found
  pub can : CanExecute held note.op
  pub stopped : load.stops ≢ old.base
  pub gone : HasGone (left_labels old.lane old.place note load) old.pen new.pen
  pub moved : new ≡ with_pen old new.pen
  pub same : left ≡ held

-- the lane can't execute what it saw at its next place; that is found by the look alone
pub record MissedNext {H : Type 0} (op : ℕ) (old new : LaneView) (held left : Held H)
    : Type 0 where
  pub note : Note
  pub it : note.op ≡ op
  pub cannot : ¬ CanExecute held op
  pub gone : HasGone (looks_full old.lane old.place note) old.pen new.pen
  pub moved : new ≡ missed_too old new.pen op
  pub same : left ≡ held

-- what an answer says
abbrev pub CameTo : {H : Type 0} → (H → Marks) → One → LaneView → LaneView → Held H → Held H → Type 0
CameTo marks (one.Ran op mark) old new held left = RanNext marks op mark old new held left
CameTo marks one.Turned old new held left = ⊥
CameTo marks one.Nothing old new held left = FoundNone old new held left
CameTo marks one.Stopped old new held left = StoppedNext old new held left
CameTo marks one.Fault old new held left = ⊥
CameTo marks (one.Missing op) old new held left = MissedNext op old new held left

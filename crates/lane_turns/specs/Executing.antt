-- One execution with a lane's pen and with the handlers that the lane holds.
use Rattle.std.specs.Prelude.{◌≡◌, ℕ, List}
use Rattle.op_handlers.specs.Marks.{Marks}
use Rattle.strand_core.specs.declared.posted.Posted.{Posted}
use Rattle.strand_core.specs.Execution.{IsWholeExecution}
use Rattle.strand_core.specs.Hands.{HasRunMark, Held, begins_among, held_at, left_at}
use Rattle.lane_clock.specs.declared.note.Note.{Note}
use Rattle.lane_turns.specs.Pens.{HasDrawnCalls, PenView}

-- the operation that was noted executed, with those that execute inside it; their calls were drawn,
-- and their handlers are spent; its own handler answered this mark
pub record HasExecutedNoted {H : Type 0} (marks : H → Marks) (note : Note) (mark : ℕ)
    (old new : PenView) (held left : Held H) : Type 0 where
  pub calls : List Posted
  pub whole : IsWholeExecution held.script (HasRunMark marks held) note.op note.code note.size calls
  pub answered : mark ≡ whole.mark
  pub drawn : HasDrawnCalls held.script calls old new
  pub spent : (n : ℕ) → held_at left n ≡ left_at (begins_among n calls) (held_at held n)

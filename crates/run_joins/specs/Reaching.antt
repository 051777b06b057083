-- What stands before a place of a run in each order.
use Rattle.std.specs.Prelude.{◌≡◌, ◌⊎◌, ◌≤◌, ℕ, List, ◌∷◌, Bool, true, false, ◌==◌, ◌||◌, ◌&&◌, Option, Some, None, nat_eq}
use Rattle.std.specs.HashMap.{get}
use Rattle.std.specs.HashSet.{contains}
use Rattle.run_lines.specs.declared.line.Doing.{Doing}
use Rattle.run_lines.specs.declared.line.Doing.TheVariants as doing
use Rattle.run_lines.specs.declared.line.Line.{Line}
use Rattle.run_rules.specs.declared.frame.Frame.{Frame}
use Rattle.run_rules.specs.declared.frame.Frame.TheVariants.{Execution, Outside}
use Rattle.run_rules.specs.declared.taking.Resource.TheVariants.{Thing}
use Rattle.run_rules.specs.Stacks.{same_frame}
use Rattle.run_rules.specs.Takings.{is_taken_by}
use Rattle.run_orders.specs.Forced.{IsForced, begun_by}
use Rattle.run_orders.specs.Trees.{Spot, spot_at, writer}
use Rattle.run_joins.specs.declared.frames.Frames.{Frames}
use Rattle.run_joins.specs.declared.note.Note.{Note}
use Rattle.run_joins.specs.declared.reached.Reached.{Reached}

-- these are kept

abbrev pub has_frame : Frames → Frame → Bool
has_frame kept (Execution op) = contains nat_eq kept.executions op
has_frame kept (Outside thread) = contains nat_eq kept.outsides thread

-- a line completes, begins or drops this operation
abbrev pub takes : Doing → ℕ → Bool
takes (doing.Done op code size) other = op == other
takes (doing.Begin op code size) other = op == other
takes (doing.Drop op) other = op == other
takes _ other = false

-- a line begins this operation
abbrev pub starts : Doing → ℕ → Bool
starts (doing.Begin op code size) other = op == other
starts _ other = false

-- a line waits for this mark
abbrev pub awaits : Doing → ℕ → Bool
awaits (doing.After mark) other = mark == other
awaits _ other = false

abbrev pub is_plain : Doing → Bool
is_plain (doing.Begin op code size) = false
is_plain _ = true

-- a place is this one, or forced before it
abbrev pub IsUpTo : List Line → ℕ → ℕ → Type 0
IsUpTo run at place = (at ≡ place) ⊎ IsForced run at place

-- a line from there on is such a one, and stands at this place or is forced before it
pub record IsSeen (run : List Line) (place from : ℕ) (Such : Spot → Type 0) : Type 0 where
  pub at : ℕ
  pub spot : Spot
  pub there : spot_at run at ≡ Some spot
  pub not_before : from ≤ at
  pub such : Such spot
  pub upto : IsUpTo run at place

-- a line of this frame that begins nothing
pub record IsOf (who : Frame) (spot : Spot) : Type 0 where
  pub writes : writer spot ≡ who
  pub plain : begun_by spot.line.does ≡ None

-- by this line this frame gives a thing back
pub record GivesUp (thing : ℕ) (who : Frame) (spot : Spot) : Type 0 where
  pub releases : spot.line.does ≡ doing.Release thing
  pub writes : writer spot ≡ who
  pub gone : is_taken_by (spot.line ∷ spot.past) spot.line.thread who (Thing thing) ≡ false

-- what is kept of the lines from there on
pub record HasReached (run : List Line) (place from : ℕ) (reached : Reached) : Type 0 where
  pub frames : (who : Frame) → has_frame reached.frames who ≡ true → IsSeen run place from (IsOf who)
  pub taken : (op : ℕ) → contains nat_eq reached.taken op ≡ true → IsSeen run place from (λ spot. takes spot.line.does op ≡ true)
  pub begun : (op : ℕ) → contains nat_eq reached.begun op ≡ true → IsSeen run place from (λ spot. starts spot.line.does op ≡ true)
  pub passed : (mark : ℕ) → contains nat_eq reached.passed mark ≡ true →
      IsSeen run place from (λ spot. awaits spot.line.does mark ≡ true)
  pub over : (thing : ℕ) (who : Frame) → get nat_eq reached.over thing ≡ Some who → IsSeen run place from (GivesUp thing who)

-- what a line adds to what is kept
pub record Adds (note : Note) (old new : Reached) : Type 0 where
  pub frames : (who : Frame) → has_frame new.frames who ≡ ((is_plain note.line.does && same_frame note.frame who) || has_frame old.frames who)
  pub taken : (op : ℕ) → contains nat_eq new.taken op ≡ (takes note.line.does op || contains nat_eq old.taken op)
  pub begun : (op : ℕ) → contains nat_eq new.begun op ≡ (starts note.line.does op || contains nat_eq old.begun op)
  pub passed : (mark : ℕ) → contains nat_eq new.passed mark ≡ (awaits note.line.does mark || contains nat_eq old.passed mark)
  pub over : (thing : ℕ) (who : Frame) → get nat_eq new.over thing ≡ Some who →
      (get nat_eq old.over thing ≡ Some who) ⊎ ((note.line.does ≡ doing.Release thing) × (note.gone ≡ true) × (note.frame ≡ who))

-- by what is kept, a line of this frame that does this stands before the place
abbrev pub reaches : Reached → Frame → Doing → Bool
reaches kept who (doing.Begin op code size) = has_frame kept.frames (Execution op)
reaches kept who (doing.Call op word context strand thing) = has_frame kept.frames who || contains nat_eq kept.taken op
reaches kept who (doing.Done op code size) = has_frame kept.frames who || contains nat_eq kept.begun op
reaches kept who (doing.Mark mark) = has_frame kept.frames who || contains nat_eq kept.passed mark
reaches kept who _ = has_frame kept.frames who

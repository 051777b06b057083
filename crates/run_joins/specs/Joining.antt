-- Which claims of a thing a join keeps apart.
use Rattle.std.specs.Prelude.{◌≡◌, ◌⊎◌, ◌≤◌, ◌<◌, ℕ, List, ◌++◌, reverse, Bool, true, false, Some, None, length, nat_eq}
use Rattle.std.specs.HashSet.{contains}
use Rattle.run_lines.specs.declared.line.Doing.{Doing}
use Rattle.run_lines.specs.declared.line.Doing.TheVariants as doing
use Rattle.run_lines.specs.declared.line.Line.{Line}
use Rattle.run_rules.specs.declared.frame.Frame.TheVariants.{Outside}
use Rattle.run_orders.specs.Joins.{IsBehind, IsOverBefore}
use Rattle.run_orders.specs.Trees.{Spot, spot_at, writer}
use Rattle.run_joins.specs.declared.joining.Join.{Join}
use Rattle.run_joins.specs.declared.joining.Joined.{Joined}
use Rattle.run_joins.specs.declared.note.Note.{Note}
use Rattle.run_joins.specs.Notes.{AreNotes}
use Rattle.run_joins.specs.Reaching.{Adds, HasReached, reaches}

abbrev pub is_late : Joined → ℕ → Bool
is_late joined thing = contains nat_eq joined.late thing

-- a line waits for others
abbrev pub is_after : Doing → Bool
is_after (doing.After mark) = true
is_after _ = false

-- the line of a join stands outside on its thread, and waits
pub record IsJoin (run : List Line) (join : Join) : Type 0 where
  pub spot : Spot
  pub there : spot_at run join.place ≡ Some spot
  pub outside : writer spot ≡ Outside join.thread
  pub waits : is_after spot.line.does ≡ true

-- the line of the join stands in the run; all claims of a thing that isn't late are over before it, or stand behind it outside on its
-- thread
pub record KeepsJoin (run : List Line) (joined : Joined) : Type 0 where
  pub joins : IsJoin run joined.join
  pub claims : (thing at : ℕ) (claim : Spot) → is_late joined thing ≡ false → spot_at run at ≡ Some claim →
      claim.line.does ≡ doing.Claim thing →
      IsOverBefore run joined.join.place thing claim ⊎ IsBehind run joined.join.thread joined.join.place at claim

-- all lines of a run but these were gone through
pub record IsWithin (run past : List Line) (joined : Joined) : Type 0 where
  pub end : (later : List Line) × (run ≡ later ++ past)
  pub reached : HasReached run joined.join.place (length past) joined.reached
  pub joins : length past ≤ joined.join.place → IsJoin run joined.join
  pub claims : (thing at : ℕ) (claim : Spot) → is_late joined thing ≡ false → spot_at run at ≡ Some claim → length past ≤ at →
      claim.line.does ≡ doing.Claim thing →
      IsOverBefore run joined.join.place thing claim ⊎ ((joined.join.place < at) × (writer claim ≡ Outside joined.join.thread))

-- a line at this place, which is the join or before it, adds what it has to
pub record Keeps (note : Note) (place : ℕ) (old new : Joined) : Type 0 where
  pub joins : place ≡ old.join.place → (note.frame ≡ Outside old.join.thread) × (is_after note.line.does ≡ true)
  pub kept : (new.reached ≡ old.reached)
      ⊎ (Adds note old.reached new.reached × ((place ≡ old.join.place) ⊎ (reaches old.reached note.frame note.line.does ≡ true)))

-- these notes are left
pub record IsLeft (run : List Line) (left : List Note) (joined : Joined) : Type 0 where
  pub past : List Line
  pub notes : AreNotes past (reverse left)
  pub within : IsWithin run past joined

-- Which things are handed over from claim to claim.
use Rattle.std.specs.Prelude.{◌≡◌, ◌⊎◌, ◌≤◌, ◌<◌, ℕ, List, ◌++◌, reverse, true, false, Some, length}
use Rattle.run_lines.specs.declared.line.Doing.TheVariants as doing
use Rattle.run_lines.specs.declared.line.Line.{Line}
use Rattle.run_orders.specs.Forced.{IsForced}
use Rattle.run_orders.specs.Joins.{IsOverBefore}
use Rattle.run_orders.specs.Trees.{Spot, spot_at}
use Rattle.run_joins.specs.declared.handing.Chain.{Chain}
use Rattle.run_joins.specs.declared.note.Note.{Note}
use Rattle.run_joins.specs.declared.reached.Reached.{Reached}
use Rattle.run_joins.specs.Notes.{AreNotes}
use Rattle.run_joins.specs.Reaching.{Adds, HasReached, reaches}

-- only what this line adds is kept
pub record IsFresh (note : Note) (new : Reached) : Type 0 where
  pub none : Reached
  pub empty : (run : List Line) (place from : ℕ) → HasReached run place from none
  pub adds : Adds note none new

-- a line adds what it has to if it stands before the claim that was met last
abbrev pub GoesOn : Note → Chain → Chain → Type 0
GoesOn note old new = (new.reached ≡ old.reached)
    ⊎ ((old.met ≡ true) × Adds note old.reached new.reached × (reaches old.reached note.frame note.line.does ≡ true))

-- the claim that was met last stands before all other claims of the thing from there on, by force
pub record IsMet (run : List Line) (from : ℕ) (chain : Chain) : Type 0 where
  pub place : ℕ
  pub claim : Spot
  pub there : spot_at run place ≡ Some claim
  pub claims : claim.line.does ≡ doing.Claim chain.thing
  pub reached : HasReached run place from chain.reached
  pub first : (at : ℕ) (other : Spot) → spot_at run at ≡ Some other → from ≤ at → other.line.does ≡ doing.Claim chain.thing →
      (at ≡ place) ⊎ IsForced run place at

-- all lines of a run but these were gone through, and so far the thing is handed over
pub record IsChain (run past : List Line) (chain : Chain) : Type 0 where
  pub end : (later : List Line) × (run ≡ later ++ past)
  pub unmet : chain.met ≡ false → (at : ℕ) (claim : Spot) → spot_at run at ≡ Some claim → length past ≤ at →
      claim.line.does ≡ doing.Claim chain.thing → ⊥
  pub last : chain.met ≡ true → IsMet run (length past) chain
  pub over : (at next : ℕ) (one two : Spot) → spot_at run at ≡ Some one → spot_at run next ≡ Some two →
      one.line.does ≡ doing.Claim chain.thing → two.line.does ≡ doing.Claim chain.thing → length past ≤ at → at < next →
      IsOverBefore run next chain.thing one

-- these notes are left
pub record IsLeftOf (run : List Line) (left : List Note) (chain : Chain) : Type 0 where
  pub past : List Line
  pub notes : AreNotes past (reverse left)
  pub chained : IsChain run past chain

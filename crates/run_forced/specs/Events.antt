-- What is known of the lines of a run.
use Rattle.std.specs.Prelude.{◌≡◌, ℕ, List, [], ◌∷◌, Some, None}
use Rattle.run_lines.specs.declared.line.Line.{Line}
use Rattle.run_rules.specs.declared.frame.Frame.TheVariants.{Execution}
use Rattle.run_rules.specs.Calls.{strand_of}
use Rattle.run_rules.specs.Stacks.{frame}
use Rattle.run_rules.specs.Starting.{Holds}
use Rattle.run_orders.specs.Forced.{begun_by}
use Rattle.run_orders.specs.Trees.{Spot, spot_at}
use Rattle.run_joins.specs.Notes.{IsNote}
use Rattle.run_forced.specs.declared.event.Event.{Event}

-- this is known of a line
pub record IsEvent (line : Line) (past : List Line) (event : Event) : Type 0 where
  pub note : IsNote line past event.note
  -- what it begins takes a turn of this strand, which its thread doesn't hold
  pub turn : (op strand : ℕ) → begun_by line.does ≡ Some op → event.strand ≡ Some strand →
      (strand_of past op ≡ Some strand) × (Holds past line.thread strand → ⊥)
  -- the execution that writes it is of this strand
  pub own : (op strand : ℕ) → begun_by line.does ≡ None → frame past line.thread ≡ Execution op → event.strand ≡ Some strand →
      strand_of past op ≡ Some strand

-- these are the events of these lines, the newest first
abbrev pub AreEvents : List Line → List Event → Type 0
AreEvents [] [] = Unit {0}
AreEvents [] (event ∷ before) = ⊥
AreEvents (line ∷ past) [] = ⊥
AreEvents (line ∷ past) (event ∷ before) = AreEvents past before × IsEvent line past event

-- this is known of the line at this place of a run
pub record IsHere (run : List Line) (place : ℕ) (event : Event) : Type 0 where
  pub spot : Spot
  pub there : spot_at run place ≡ Some spot
  pub known : IsEvent spot.line spot.past event

-- Turns of strands that have ended.
use Rattle.std.specs.Prelude.{◌≡◌, ℕ, List, Option, Some, nat_eq}
use Rattle.std.specs.HashMap.{get}
use Rattle.std.specs.List.{Contains}
use Rattle.run_lines.specs.declared.line.Line.{Line}
use Rattle.run_rules.specs.Calls.{strand_of}
use Rattle.run_rules.specs.Starting.{Holds}
use Rattle.run_orders.specs.Causes.{ends}
use Rattle.run_orders.specs.Trees.{Spot, spot_at}
use Rattle.run_forced.specs.declared.turns.Ended.{Ended}
use Rattle.run_forced.specs.declared.turns.Turns.{Turns}
use Rattle.run_forced.specs.Sources.{Begins, IsQueuedAt}

-- an operation begins at this place
pub record HasBegunAt (run : List Line) (op place : ℕ) : Type 0 where
  pub start : Spot
  pub there : spot_at run place ≡ Some start
  pub begun : Begins op start

-- an execution of a strand ended, which began there and stood in the queue from there on, as far as that is known
pub record HasEnded (run : List Line) (strand : ℕ) (ended : Ended) : Type 0 where
  pub spot : Spot
  pub there : spot_at run ended.place ≡ Some spot
  pub ends_it : ends spot.line.does ≡ Some ended.op
  pub on : strand_of spot.past ended.op ≡ Some strand
  pub begin : (place : ℕ) → ended.begin ≡ Some place → HasBegunAt run ended.op place
  pub behind : (place : ℕ) → ended.behind ≡ Some place → IsQueuedAt run ended.op place

-- the latest executions of each strand
abbrev pub HaveEnded : List Line → Turns → Type 0
HaveEnded run turns = (strand : ℕ) (list : _) → get nat_eq turns.by_strand strand ≡ Some list → (ended : Ended) →
    Contains list.items ended → HasEnded run strand ended

-- a line begins an operation, which takes a turn of a strand that its thread doesn't hold
pub record TakesTurn (spot : Spot) (op strand : ℕ) : Type 0 where
  pub begun : Begins op spot
  pub on : strand_of spot.past op ≡ Some strand
  pub unheld : Holds spot.past spot.line.thread strand → ⊥

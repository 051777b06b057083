-- Which executions inside others may stand alone in another order: those that Asio wouldn't have to execute there (reference,
-- io_context::strand, "dispatch"; io_context::poll, ::run).
use Rattle.std.specs.Prelude.{◌≡◌, ◌≢◌, ◌⊎◌, ℕ, List, [], ◌∷◌, Bool, false, ◌==◌, if◌then◌else◌, Some, None, IsTrue}
use Rattle.run_lines.specs.declared.line.Line.{Line}
use Rattle.run_rules.specs.Against.{calls}
use Rattle.run_rules.specs.Calls.{begins, strand_of}
use Rattle.run_rules.specs.Stacks.{stack}
use Rattle.run_rules.specs.Starting.{Holds, IsInside}
use Rattle.run_orders.specs.Trees.{Spot, spot_at}

-- an operation begins inside the execution that dispatched it, to no strand or to one that its thread holds
abbrev pub IsOwn : List Line → ℕ → ℕ → Type 0
IsOwn past thread op =
    IsInside past thread op
    × ((strand_of past op ≡ None) ⊎ ((strand : ℕ) × (strand_of past op ≡ Some strand) × Holds past thread strand))

-- its execution begins inside another one, and isn't that one's own
pub record StandsAlone (run : List Line) (op : ℕ) : Type 0 where
  pub place : ℕ
  pub spot : Spot
  pub there : spot_at run place ≡ Some spot
  pub begun : IsTrue (begins spot.line.does op)
  pub inside : stack spot.past spot.line.thread ≢ []
  pub lent : ¬ (IsOwn spot.past spot.line.thread op)

-- the last line of a thread calls this operation
abbrev pub called_last : List Line → ℕ → ℕ → Bool
called_last [] thread op = false
called_last (line ∷ past) thread op = if line.thread == thread then calls line.does op else called_last past thread op

-- its execution begins straight behind its call, on a strand that its thread doesn't hold: it is there because the strand was idle
pub record WasIdle (run : List Line) (op strand : ℕ) : Type 0 where
  pub place : ℕ
  pub spot : Spot
  pub there : spot_at run place ≡ Some spot
  pub begun : IsTrue (begins spot.line.does op)
  pub straight : IsTrue (called_last spot.past spot.line.thread op)
  pub on : strand_of spot.past op ≡ Some strand
  pub unheld : ¬ (Holds spot.past spot.line.thread strand)

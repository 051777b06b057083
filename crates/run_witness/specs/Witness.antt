-- An order that shows an overlap, as plainly as can be.
use Rattle.std.specs.Prelude.{◌≡◌, ℕ, List, [], ◌∷◌, Some, ◌<◌, length, Option, IsSomeAnd}
use Rattle.run_lines.specs.declared.line.Line.{Line}
use Rattle.run_rules.specs.Legal.{IsLegalSoFar}
use Rattle.run_orders.specs.declared.order.Step.{Step}
use Rattle.run_orders.specs.Causes.{IsCause}
use Rattle.run_orders.specs.Holding.{HoldsBoth}
use Rattle.run_orders.specs.Orders.{IsOrderOf, lines_of, plain}
use Rattle.run_orders.specs.Trees.{Spot, spot_at}

-- an order of a run in which these executions are set apart ends as a second thread claims a thing that another one holds by the claim
-- at this place; before that claim all rules are kept
pub record IsWitness (run : List Line) (apart : List ℕ) (before : List Step) (last : Step) (thing claim : ℕ) : Type 0 where
  pub order : IsOrderOf run apart (last ∷ before)
  pub holds : HoldsBoth run (last ∷ before) thing claim last.place
  pub legal : IsLegalSoFar plain (lines_of before)

-- the line of the run at this place stands behind its causes in an order, if it stands; where lines stand is told by `position`
abbrev pub IsLineBehind : List Line → List ℕ → (ℕ → Option ℕ) → ℕ → Type 0
IsLineBehind run apart position place = (bound at : ℕ) (spot first : Spot) → spot_at run place ≡ Some spot
    → position place ≡ Some bound →
    spot_at run at ≡ Some first → IsCause apart first spot → IsSomeAnd (position at) (λ before. before < bound)

abbrev pub AreBehind : List Line → List ℕ → (ℕ → Option ℕ) → Type 0
AreBehind run apart position = (place : ℕ) → place < length run → IsLineBehind run apart position place

-- When an order holds two claims of one thing at once (Overview, "Threads and Boost.Asio": unsafe to make concurrent use of a single
-- object).
use Rattle.std.specs.Prelude.{◌≡◌, ◌≢◌, ◌<◌, ℕ, List, ◌∷◌, false, length, Some}
use Rattle.run_lines.specs.declared.line.Doing.TheVariants as doing
use Rattle.run_lines.specs.declared.line.Line.{Line}
use Rattle.run_rules.specs.declared.taking.Resource.TheVariants.{Thing}
use Rattle.run_rules.specs.Takings.{is_taken_by}
use Rattle.run_orders.specs.declared.order.Step.{Step}
use Rattle.run_orders.specs.Orders.{IsPut, Stands}
use Rattle.run_orders.specs.Trees.{Spot, spot_at, writer}

-- a later line of the frame that claimed a thing, behind which this frame has the thing no more
pub record GivesBack (thing : ℕ) (claim later : Spot) : Type 0 where
  pub behind : length claim.past < length later.past
  pub same : writer later ≡ writer claim
  pub gone : is_taken_by (later.line ∷ later.past) claim.line.thread (writer claim) (Thing thing) ≡ false

-- a claim stands in an order, on this thread, and no line by which it is given back
pub record IsHeld (run : List Line) (steps : List Step) (place thread thing : ℕ) : Type 0 where
  pub claim : Spot
  pub there : spot_at run place ≡ Some claim
  pub claims : claim.line.does ≡ doing.Claim thing
  pub step : Step
  pub put : IsPut run steps step claim
  pub here : step.place ≡ place
  pub on : step.line.thread ≡ thread
  pub kept : (at : ℕ) (later : Spot) → spot_at run at ≡ Some later → GivesBack thing claim later → ¬ (Stands steps at)

-- an order ends where two threads hold this thing by these two claims
pub record HoldsBoth (run : List Line) (steps : List Step) (thing one other : ℕ) : Type 0 where
  pub first : ℕ
  pub second : ℕ
  pub apart : first ≢ second
  pub held : IsHeld run steps one first thing
  pub held_too : IsHeld run steps other second thing

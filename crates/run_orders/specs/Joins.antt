-- What a join keeps apart: what was done before a line is forced before it, and what its frame does from there on comes behind it
-- (C++, std::thread::join: what the thread did happens before the return).
use Rattle.std.specs.Prelude.{◌≡◌, ◌⊎◌, ℕ, List, Some}
use Rattle.run_lines.specs.declared.line.Doing.TheVariants as doing
use Rattle.run_lines.specs.declared.line.Line.{Line}
use Rattle.run_rules.specs.declared.frame.Frame.TheVariants.{Outside}
use Rattle.run_orders.specs.declared.guard.Guard.{Guard}
use Rattle.run_orders.specs.Forced.{IsForced}
use Rattle.run_orders.specs.Guards.{Guards}
use Rattle.run_orders.specs.Holding.{GivesBack}
use Rattle.run_orders.specs.Trees.{Spot, spot_at, writer}

-- a claim is given back by a line that is forced before this place
pub record IsOverBefore (run : List Line) (place thing : ℕ) (claim : Spot) : Type 0 where
  pub at : ℕ
  pub later : Spot
  pub there : spot_at run at ≡ Some later
  pub gives : GivesBack thing claim later
  pub forced : IsForced run at place

-- a line stands outside on this thread, behind this place by force
pub record IsBehind (run : List Line) (thread place at : ℕ) (spot : Spot) : Type 0 where
  pub outside : writer spot ≡ Outside thread
  pub forced : IsForced run place at

-- all claims of a thing are guarded by the same and over before this place, or stand outside on this thread behind it
abbrev pub JoinsAll : List Line → Guard → ℕ → ℕ → ℕ → Type 0
JoinsAll run guard thread place thing = (at : ℕ) (claim : Spot) → spot_at run at ≡ Some claim → claim.line.does ≡ doing.Claim thing →
    (Guards run guard thing claim × IsOverBefore run place thing claim) ⊎ IsBehind run thread place at claim

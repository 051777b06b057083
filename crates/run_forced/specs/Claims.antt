-- Which claims of things are given back before the next ones in each order of a run.
use Rattle.std.specs.Prelude.{◌≡◌, ◌<◌, ◌≤◌, ℕ, List, Bool, false, Option, Some, None, IsSomeAnd, nat_eq}
use Rattle.std.specs.HashMap.{get}
use Rattle.std.specs.HashSet.{contains}
use Rattle.run_lines.specs.declared.line.Doing.TheVariants as doing
use Rattle.run_lines.specs.declared.line.Line.{Line}
use Rattle.run_orders.specs.Forced.{IsForced}
use Rattle.run_orders.specs.Holding.{GivesBack}
use Rattle.run_orders.specs.Joins.{IsOverBefore}
use Rattle.run_orders.specs.Trees.{Spot, spot_at, writer}
use Rattle.run_forced.specs.declared.claims.Claims.{Claims}
use Rattle.run_forced.specs.declared.claims.LastClaim.{LastClaim}

abbrev pub last_claim : Claims → ℕ → Option LastClaim
last_claim claims thing = get nat_eq claims.last thing

abbrev pub is_mixed : Claims → ℕ → Bool
is_mixed claims thing = contains nat_eq claims.mixed thing

-- a line that gives a claim back stands at this place
pub record IsOverAt (run : List Line) (thing : ℕ) (claim : Spot) (place : ℕ) : Type 0 where
  pub later : Spot
  pub there : spot_at run place ≡ Some later
  pub gives : GivesBack thing claim later
  pub plain : later.line.does ≡ doing.Release thing

-- this is the last claim of a thing among so many lines
pub record IsLastClaim (run : List Line) (lines thing : ℕ) (last : LastClaim) : Type 0 where
  pub place : ℕ
  pub spot : Spot
  pub there : spot_at run place ≡ Some spot
  pub earlier : place < lines
  pub claims : spot.line.does ≡ doing.Claim thing
  pub writes : writer spot ≡ last.frame
  pub newest : (at : ℕ) (other : Spot) → spot_at run at ≡ Some other → other.line.does ≡ doing.Claim thing → at < lines → at ≤ place
  pub over : (at : ℕ) → last.over ≡ Some at → IsOverAt run thing spot at

-- these are the claims among so many lines
pub record AreClaims (run : List Line) (lines : ℕ) (claims : Claims) : Type 0 where
  pub none : (thing : ℕ) → last_claim claims thing ≡ None → (at : ℕ) (spot : Spot) → spot_at run at ≡ Some spot →
      spot.line.does ≡ doing.Claim thing → at < lines → ⊥
  pub lasts : (thing : ℕ) (last : LastClaim) → last_claim claims thing ≡ Some last → IsLastClaim run lines thing last
  pub handed : (thing : ℕ) → is_mixed claims thing ≡ false → (at next : ℕ) (one two : Spot) → spot_at run at ≡ Some one →
      spot_at run next ≡ Some two → one.line.does ≡ doing.Claim thing → two.line.does ≡ doing.Claim thing → at < next → next < lines →
      IsOverBefore run next thing one

-- the last claim of a thing is given back before this place in each order
abbrev pub IsFree : List Line → Claims → ℕ → ℕ → Type 0
IsFree run claims thing place = (last : LastClaim) → last_claim claims thing ≡ Some last →
    IsSomeAnd last.over (λ at. IsForced run at place)

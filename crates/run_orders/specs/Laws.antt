-- What follows from the definition of another order.
use Rattle.std.specs.Prelude.{◌≡◌, ℕ, List, [], ◌∷◌, length, Some}
use Rattle.run_lines.specs.declared.line.Line.{Line}
use Rattle.run_rules.specs.Legal.{IsLegalSoFar}
use Rattle.run_orders.specs.declared.guard.Guard.{Guard}
use Rattle.run_orders.specs.declared.order.Step.{Step}
use Rattle.run_orders.specs.Guards.{Guards, GuardsAll}
use Rattle.run_orders.specs.Forced.{IsForced}
use Rattle.run_orders.specs.Handing.{HandsOver}
use Rattle.run_orders.specs.Holding.{GivesBack, HoldsBoth}
use Rattle.run_orders.specs.Joins.{JoinsAll}
use Rattle.run_orders.specs.Orders.{IsOrderOf, Stands, plain}
use Rattle.run_orders.specs.Trees.{Spot, spot_at, tree}

-- a run as an order of itself: each line stands where it is
abbrev pub steps_of : List Line → List Step
steps_of [] = []
steps_of (line ∷ past) = record { place = length past; line = line } ∷ steps_of past

abbrev pub IsOrderOfItself : List Line → Type 0
IsOrderOfItself run = IsLegalSoFar plain run → IsOrderOf run [] (steps_of run)

-- the claims of one tree are never held by two threads
abbrev pub KeepsOneTreeApart : List Line → List ℕ → List Step → Type 0
KeepsOneTreeApart run apart steps = (thing place other : ℕ) (one two : Spot) → IsOrderOf run apart steps →
    spot_at run place ≡ Some one → spot_at run other ≡ Some two →
    tree apart one ≡ tree apart two → HoldsBoth run steps thing place other → ⊥

-- two claims of a thing that are guarded by the same are never held by two threads
abbrev pub KeepsGuardedApart : List Line → List ℕ → List Step → Type 0
KeepsGuardedApart run apart steps = (guard : Guard) (thing place other : ℕ) (one two : Spot) → IsLegalSoFar plain run →
    IsOrderOf run apart steps → spot_at run place ≡ Some one → spot_at run other ≡ Some two →
    Guards run guard thing one → Guards run guard thing two → HoldsBoth run steps thing place other → ⊥

-- no order of a run ends where two threads hold this thing
abbrev pub NeverOverlaps : List Line → ℕ → Type 0
NeverOverlaps run thing = (apart : List ℕ) (steps : List Step) (place other : ℕ) → IsOrderOf run apart steps →
    HoldsBoth run steps thing place other → ⊥

-- a thing never overlaps if all its claims are guarded by the same
abbrev pub GuardsSuffice : List Line → Type 0
GuardsSuffice run = (guard : Guard) (thing : ℕ) → IsLegalSoFar plain run → GuardsAll run guard thing → NeverOverlaps run thing

-- two claims of a thing are never held by two threads if one is given back before the other is made, by force
abbrev pub KeepsForcedApart : List Line → List ℕ → List Step → Type 0
KeepsForcedApart run apart steps = (thing place other at : ℕ) (one later : Spot) → IsLegalSoFar plain run →
    IsOrderOf run apart steps → spot_at run place ≡ Some one → spot_at run at ≡ Some later →
    GivesBack thing one later → IsForced run at other → HoldsBoth run steps thing place other → ⊥

-- a thing never overlaps if a join comes behind all claims that something else guards, and before the others
abbrev pub JoinsSuffice : List Line → Type 0
JoinsSuffice run = (guard : Guard) (thread place thing : ℕ) → IsLegalSoFar plain run → JoinsAll run guard thread place thing →
    NeverOverlaps run thing

-- what is forced before a line stands before it in each order
abbrev pub KeepsForcedOrder : List Line → List ℕ → List Step → Type 0
KeepsForcedOrder run apart before = (step : Step) (first : ℕ) → IsLegalSoFar plain run → IsOrderOf run apart (step ∷ before) →
    IsForced run first step.place → Stands before first

-- a thing never overlaps if it is handed over from claim to claim
abbrev pub HandingSuffices : List Line → Type 0
HandingSuffices run = (thing : ℕ) → IsLegalSoFar plain run → HandsOver run thing → NeverOverlaps run thing

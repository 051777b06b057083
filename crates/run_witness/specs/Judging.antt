-- What the judge of orders asks.
use Rattle.std.specs.Prelude.{◌≡◌, ◌⊎◌, ◌<◌, ◌≤◌, ◌≢◌, ℕ, List, [], ◌∷◌, ◌++◌, true, Option, Some, None, IsSome}
use Rattle.std.specs.List.{Contains}
use Rattle.run_lines.specs.declared.line.Doing.{Doing}
use Rattle.run_lines.specs.declared.line.Doing.TheVariants as doing
use Rattle.run_lines.specs.declared.line.Line.{Line}
use Rattle.run_rules.specs.Calls.{Waits, call_of, strand_of}
use Rattle.run_rules.specs.Entries.{entry_of}
use Rattle.run_rules.specs.Legal.{IsLegalSoFar}
use Rattle.run_rules.specs.Starting.{IsFirst}
use Rattle.run_check.specs.After.{IsAfter}
use Rattle.run_orders.specs.declared.order.Step.{Step}
use Rattle.run_orders.specs.Orders.{EachMayStand, lines_of, plain}
use Rattle.run_witness.specs.Facts.{fact_at}
use Rattle.run_witness.specs.Placing.{EachIsPutWell, FindsBusy, IsPlacing, IsPutWell, position_of}
use Rattle.run_witness.specs.declared.facts.Fact.{Fact}
use Rattle.run_witness.specs.declared.facts.Facts.{Facts}
use Rattle.run_witness.specs.declared.judging.Replay.{Replay}
use Rattle.run_witness.specs.declared.placing.Placing.{Placing}

-- what a line begins is the first of its strand
abbrev pub IsFirstIn : List Line → Doing → Type 0
IsFirstIn past (doing.Begin op code size) = IsFirst plain past op
IsFirstIn past _ = Unit {0}

-- an operation waits in the queue of this strand, or has just been submitted to it
pub record HasEntry (past : List Line) (strand op : ℕ) : Type 0 where
  pub waits : Waits past op
  pub on : strand_of past op ≡ Some strand
  pub entered : IsSome (entry_of past op)

-- one of these operations does
pub record SomeHasEntry (past : List Line) (strand : ℕ) (ops : List ℕ) : Type 0 where
  pub op : ℕ
  pub among : Contains ops op
  pub has : HasEntry past strand op

-- the operations that were called, with the one that a line calls
abbrev pub called_with : List ℕ → Option ℕ → List ℕ
called_with ops None = ops
called_with ops (Some op) = ops ++ op ∷ []

-- these lines of an order were put and followed
pub record IsReplay (run : List Line) (apart : List ℕ) (before : List Step) (replay : Replay) : Type 0 where
  pub placing : IsPlacing run apart before replay.placing
  pub after : IsAfter (lines_of before) replay.checker
  pub called : (op : ℕ) → IsSome (call_of (lines_of before) op) → Contains replay.called.items op
  pub legal : IsLegalSoFar plain (lines_of before)
  pub well : EachIsPutWell run apart before

-- each of these lines may stand in an order behind those before it, and keeps all rules of runs
pub record ArePlain (run : List Line) (apart : List ℕ) (before : List Step) : Type 0 where
  pub each : EachMayStand run apart before
  pub legal : IsLegalSoFar plain (lines_of before)

-- a line more of the run was placed, which may stand there
pub record IsPlacedNext (run : List Line) (apart : List ℕ) (before : List Step) (step : Step)
    (kept : Placing) : Type 0 where
  pub placing : IsPlacing run apart (step ∷ before) kept
  pub well : IsPutWell run apart before step
  pub busy : FindsBusy run apart before step

-- all lines of an order were put, and all but the last were followed
pub record IsPutWhole (run : List Line) (apart : List ℕ) (before : List Step) (last : Step) (kept : Placing) : Type 0 where
  pub placing : IsPlacing run apart (last ∷ before) kept
  pub legal : IsLegalSoFar plain (lines_of before)
  pub well : EachIsPutWell run apart (last ∷ before)

-- a line of the run claims a thing
pub record IsClaimAt (facts : Facts) (place thing : ℕ) (claim : Fact) : Type 0 where
  pub there : fact_at facts place ≡ Some claim
  pub claims : claim.line.does ≡ doing.Claim thing

-- a line that stands doesn't give back what this one claims
pub record Keeps (facts : Facts) (placing : Placing) (place : ℕ) (claim : Fact) (at : ℕ) : Type 0 where
  pub fact : Fact
  pub there : fact_at facts at ≡ Some fact
  pub keeps : (at ≤ place) ⊎ ((fact.writer ≢ claim.writer) ⊎ ((fact.has ≡ true) ⊎ (position_of placing at ≡ None)))

-- no line that stands gives it back
abbrev pub KeepsAll : Facts → Placing → ℕ → Fact → Type 0
KeepsAll facts placing place claim = (at : ℕ) → at < facts.lines → Keeps facts placing place claim at

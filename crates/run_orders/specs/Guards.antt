-- What keeps a claim apart from others in each order of a run.
use Rattle.std.specs.Prelude.{◌≡◌, ◌⊎◌, ◌<◌, ℕ, List, length, Some}
use Rattle.run_lines.specs.declared.line.Doing.TheVariants as doing
use Rattle.run_lines.specs.declared.line.Line.{Line}
use Rattle.run_rules.specs.declared.frame.Frame.TheVariants.{Execution, Outside}
use Rattle.run_rules.specs.Calls.{context_of, strand_of}
use Rattle.run_orders.specs.declared.guard.Guard.{Guard}
use Rattle.run_orders.specs.declared.guard.Guard.TheVariants as guard
use Rattle.run_orders.specs.Holding.{GivesBack}
use Rattle.run_orders.specs.Orders.{IsWorker}
use Rattle.run_orders.specs.Trees.{Spot, spot_at, writer}

-- the execution that claims is one of this strand (reference, io_context::strand: no two of its handlers execute concurrently)
pub record OnStrand (strand : ℕ) (claim : Spot) : Type 0 where
  pub op : ℕ
  pub claims : writer claim ≡ Execution op
  pub on : strand_of claim.past op ≡ Some strand

-- the frame that claims has locked this mutex before, and from there on unlocks it only where it has the thing no more (C++,
-- std::mutex)
pub record UnderLock (run : List Line) (lock thing : ℕ) (claim : Spot) : Type 0 where
  pub place : ℕ
  pub locked : Spot
  pub there : spot_at run place ≡ Some locked
  pub locks : locked.line.does ≡ doing.Lock lock
  pub before : length locked.past < length claim.past
  pub same : writer locked ≡ writer claim
  pub kept : (at : ℕ) (later : Spot) → spot_at run at ≡ Some later → later.line.does ≡ doing.Unlock lock →
      writer later ≡ writer claim → length locked.past < length later.past → GivesBack thing claim later

-- the execution that claims is of a context whose handlers only this thread executes (reference, io_context::run)
pub record OnWorker (run : List Line) (thread : ℕ) (claim : Spot) : Type 0 where
  pub op : ℕ
  pub context : ℕ
  pub claims : writer claim ≡ Execution op
  pub of_context : context_of claim.past op ≡ Some context
  pub alone : (other : ℕ) → IsWorker run other context → other ≡ thread

-- only this thread can make the claim: what it claims outside, or what a context claims that it works for alone
abbrev pub OnThread : List Line → ℕ → Spot → Type 0
OnThread run thread claim = (writer claim ≡ Outside thread) ⊎ OnWorker run thread claim

-- a claim of a thing is guarded
abbrev pub Guards : List Line → Guard → ℕ → Spot → Type 0
Guards run (guard.Strand strand) thing claim = OnStrand strand claim
Guards run (guard.Lock lock) thing claim = UnderLock run lock thing claim
Guards run (guard.Thread thread) thing claim = OnThread run thread claim

-- all claims of a thing are guarded by the same
abbrev pub GuardsAll : List Line → Guard → ℕ → Type 0
GuardsAll run guard thing = (place : ℕ) (claim : Spot) → spot_at run place ≡ Some claim →
    claim.line.does ≡ doing.Claim thing → Guards run guard thing claim

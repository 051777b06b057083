-- Other orders of a run: the same acts by the same callers with the same outcomes, on other threads or at other times.
use Rattle.std.specs.Prelude.{◌≡◌, ◌⊎◌, ℕ, List, [], ◌∷◌, Bool, false, Some, IsSome, IsTrue, nat_eq}
use Rattle.std.specs.List.{All}
use Rattle.std.specs.Option.{option_eq}
use Rattle.run_lines.specs.declared.line.Doing.{Doing}
use Rattle.run_lines.specs.declared.line.Doing.TheVariants as doing
use Rattle.run_lines.specs.declared.line.Line.{Line}
use Rattle.run_rules.specs.declared.frame.Frame.TheVariants.{Execution, Outside}
use Rattle.run_rules.specs.declared.level.Level.{Level}
use Rattle.run_rules.specs.declared.level.Strictness.TheVariants.{Plain}
use Rattle.run_rules.specs.Against.{calls, op_of}
use Rattle.run_rules.specs.Calls.{Waits, begins, context_of, strand_of}
use Rattle.run_rules.specs.Entries.{entry_of}
use Rattle.run_rules.specs.MayCome.{MayDo}
use Rattle.run_rules.specs.Stacks.{frame}
use Rattle.run_rules.specs.Starting.{Holds}
use Rattle.run_orders.specs.declared.order.Step.{Step}
use Rattle.run_orders.specs.Apart.{StandsAlone, WasIdle}
use Rattle.run_orders.specs.Causes.{IsCause}
use Rattle.run_orders.specs.Trees.{Spot, is_among, spot_at, tree}

-- what is asked of each run
abbrev pub plain : Level
plain = record { streams = false; strictness = Plain }

-- the same of an operation with another number
abbrev pub renumbered : ℕ → Doing → Doing
renumbered number (doing.Call op word context strand thing) = doing.Call number word context strand thing
renumbered number (doing.Back op) = doing.Back number
renumbered number (doing.Done op code size) = doing.Done number code size
renumbered number (doing.Begin op code size) = doing.Begin number code size
renumbered number (doing.End op) = doing.End number
renumbered number (doing.Throw op) = doing.Throw number
renumbered number (doing.Drop op) = doing.Drop number
renumbered number other = other

-- both speak of one operation, or neither speaks of any
abbrev pub same_op : Doing → Doing → Bool
same_op one other = option_eq nat_eq (op_of one) (op_of other)

-- the lines of an order
abbrev pub lines_of : List Step → List Line
lines_of [] = []
lines_of (step ∷ before) = step.line ∷ lines_of before

-- a line keeps the rules of runs, but for the one that no other thread has claimed the thing
abbrev pub MayDoBut : List Line → ℕ → Doing → Type 0
MayDoBut past thread (doing.Claim thing) = Unit {0}
MayDoBut past thread does = MayDo plain past thread does

abbrev pub IsLegalBut : List Line → Type 0
IsLegalBut [] = Unit {0}
IsLegalBut (line ∷ past) = IsLegalBut past × MayDoBut past line.thread line.does

-- a step stands in an order
abbrev pub IsStep : List Step → Step → Type 0
IsStep [] step = ⊥
IsStep (one ∷ before) step = (one ≡ step) ⊎ IsStep before step

-- a line of the run stands in an order
abbrev pub Stands : List Step → ℕ → Type 0
Stands [] place = ⊥
Stands (step ∷ before) place = (step.place ≡ place) ⊎ Stands before place

-- a step of an order, and the line of the run that it is
pub record IsPut (run : List Line) (steps : List Step) (step : Step) (spot : Spot) : Type 0 where
  pub stands : IsStep steps step
  pub there : spot_at run step.place ≡ Some spot

-- in the run this thread executes handlers of this context (reference, io_context::run)
pub record IsWorker (run : List Line) (thread context : ℕ) : Type 0 where
  pub place : ℕ
  pub spot : Spot
  pub there : spot_at run place ≡ Some spot
  pub same : spot.line.thread ≡ thread
  pub works : (spot.line.does ≡ doing.Work context)
      ⊎ ((op : ℕ) × IsTrue (begins spot.line.does op) × (context_of spot.past op ≡ Some context))

-- a strand is held, or has an entry that waits: what is dispatched to it from elsewhere isn't executed inside the call
abbrev pub IsBusy : List Line → ℕ → Type 0
IsBusy past strand =
    ((thread : ℕ) × Holds past thread strand)
    ⊎ ((op : ℕ) × Waits past op × (strand_of past op ≡ Some strand) × IsSome (entry_of past op))

-- a line is the first of the tree of an execution, or no execution is round it
abbrev pub BeginsTree : List ℕ → Spot → Type 0
BeginsTree apart spot =
    (tree apart spot ≡ Outside spot.line.thread)
    ⊎ ((op : ℕ) × IsTrue (begins spot.line.does op) × (tree apart spot ≡ Execution op))

-- whether a line of the run may stand behind these
pub record MayStand (run : List Line) (apart : List ℕ) (before : List Step) (step : Step) : Type 0 where
  pub spot : Spot
  pub there : spot_at run step.place ≡ Some spot
  -- each line of the run stands once at most
  pub once : ¬ (Stands before step.place)
  -- it does the same, but for the number of its operation, and numbers are one to one
  pub copied : (number : ℕ) × (step.line.does ≡ renumbered number spot.line.does)
  pub numbered : (other : Step) (first : Spot) → IsPut run before other first →
      same_op first.line.does spot.line.does ≡ same_op other.line.does step.line.does
  -- all its causes stand before it
  pub behind : (place : ℕ) (first : Spot) → spot_at run place ≡ Some first → IsCause apart first spot → Stands before place
  -- a tree stays on one thread, and what a thread does outside on that one
  pub together : (other : Step) (first : Spot) → IsPut run before other first → tree apart first ≡ tree apart spot →
      other.line.thread ≡ step.line.thread
  pub outside : tree apart spot ≡ Outside spot.line.thread → step.line.thread ≡ spot.line.thread
  -- its caller is the same: the execution that it is in within its tree, or the outside of its thread; there also a tree begins
  pub caller : (other : Step) (first : Spot) (op number : ℕ) → IsPut run before other first →
      tree apart first ≡ tree apart spot → frame spot.past spot.line.thread ≡ Execution op →
      IsTrue (begins first.line.does op) → IsTrue (begins other.line.does number) →
      frame (lines_of before) step.line.thread ≡ Execution number
  pub idle : BeginsTree apart spot → frame (lines_of before) step.line.thread ≡ Outside step.line.thread
  -- reference, io_context::run: a handler is executed by a thread that executes handlers of its context
  pub worker : (op context : ℕ) → IsTrue (begins spot.line.does op) → context_of spot.past op ≡ Some context →
      IsWorker run step.line.thread context
  -- reference, strand::dispatch: what is set apart finds its strand busy when it is called, else it would be executed inside
  pub busy : (op strand : ℕ) → IsTrue (calls spot.line.does op) → IsTrue (is_among apart op) → WasIdle run op strand →
      IsBusy (lines_of before) strand

abbrev pub EachMayStand : List Line → List ℕ → List Step → Type 0
EachMayStand run apart [] = Unit {0}
EachMayStand run apart (step ∷ before) = EachMayStand run apart before × MayStand run apart before step

-- another order of a run, in which these executions stand alone; the newest line stands first
pub record IsOrderOf (run : List Line) (apart : List ℕ) (steps : List Step) : Type 0 where
  -- only what Asio need not execute inside another is set apart
  pub alone : All (StandsAlone run) apart
  pub each : EachMayStand run apart steps
  pub legal : IsLegalBut (lines_of steps)

-- Where the lines of an order stand, and what is kept of them.
use Rattle.std.specs.Prelude.{◌≡◌, ◌+◌, ℕ, List, [], ◌∷◌, ◌==◌, if◌then◌else◌, length, Option, Some, None, IsTrue, nat_eq}
use Rattle.std.specs.HashMap.{get}
use Rattle.std.specs.Option.{unwrap_or}
use Rattle.run_lines.specs.declared.line.Line.{Line}
use Rattle.run_lines.specs.declared.line.Doing.{Doing}
use Rattle.run_rules.specs.declared.frame.Frame.{Frame}
use Rattle.run_rules.specs.declared.frame.Frame.TheVariants.{Execution, Outside}
use Rattle.run_rules.specs.Against.{calls, op_of}
use Rattle.run_rules.specs.Calls.{begins, context_of}
use Rattle.run_rules.specs.Stacks.{frame, same_frame}
use Rattle.run_check.specs.declared.waiting.Waiter.{Waiter}
use Rattle.run_orders.specs.declared.order.Step.{Step}
use Rattle.run_orders.specs.Apart.{WasIdle}
use Rattle.run_orders.specs.Orders.{BeginsTree, IsBusy, IsPut, IsWorker, Stands, lines_of, renumbered, same_op}
use Rattle.run_orders.specs.Trees.{Spot, is_among, spot_at, tree}
use Rattle.run_witness.specs.Facts.{works}
use Rattle.run_witness.specs.declared.facts.Fact.{Fact}
use Rattle.run_witness.specs.declared.facts.Facts.{Facts}
use Rattle.run_witness.specs.declared.placing.Placing.{Placing}

-- where a line of the run stands in an order, counted from the oldest
abbrev pub position : List Step → ℕ → Option ℕ
position [] place = None
position (step ∷ before) place = if step.place == place then Some (length before) else position before place

abbrev pub position_of : Placing → ℕ → Option ℕ
position_of kept place = get nat_eq kept.places place

abbrev pub thread_of : Placing → Frame → Option ℕ
thread_of kept tree = get same_frame kept.threads tree

abbrev pub number_of : Placing → ℕ → Option ℕ
number_of kept op = get nat_eq kept.numbers op

abbrev pub op_named : Placing → ℕ → Option ℕ
op_named kept number = get nat_eq kept.ops number

-- what is known is this, or nothing is
abbrev pub IsOrUnknown : Option ℕ → ℕ → Type 0
IsOrUnknown None number = Unit {0}
IsOrUnknown (Some other) number = other ≡ number

-- two lines, of the run and of the order, name operations that are one
abbrev pub Pairs : Placing → Option ℕ → Option ℕ → Type 0
Pairs kept None None = Unit {0}
Pairs kept None (Some number) = ⊥
Pairs kept (Some op) None = ⊥
Pairs kept (Some op) (Some number) = (number_of kept op ≡ Some number) × (op_named kept number ≡ Some op)

-- or may become so
abbrev pub MayPair : Placing → Option ℕ → Option ℕ → Type 0
MayPair kept None None = Unit {0}
MayPair kept None (Some number) = ⊥
MayPair kept (Some op) None = ⊥
MayPair kept (Some op) (Some number) = IsOrUnknown (number_of kept op) number × IsOrUnknown (op_named kept number) op

-- a line is the first of the tree of an execution, or no execution is round it
abbrev pub BeginsIts : Doing → Frame → Type 0
BeginsIts does (Outside thread) = Unit {0}
BeginsIts does (Execution op) = IsTrue (begins does op)

-- a line of the run may be put into an order, by what is kept, as the next line of this frame
pub record MayPut (kept : Placing) (facts : Facts) (fact : Fact) (step : Step) (who : Frame) : Type 0 where
  pub once : position_of kept step.place ≡ None
  pub copied : step.line.does ≡ renumbered (unwrap_or (op_of step.line.does) 0) fact.line.does
  pub numbered : MayPair kept (op_of fact.line.does) (op_of step.line.does)
  pub together : IsOrUnknown (thread_of kept fact.tree) step.line.thread
  pub home : (thread : ℕ) → fact.tree ≡ Outside thread → thread ≡ step.line.thread
  pub caller : ¬ (BeginsIts fact.line.does fact.tree) → (op number : ℕ) → fact.writer ≡ Execution op →
      number_of kept op ≡ Some number → who ≡ Execution number
  pub idle : BeginsIts fact.line.does fact.tree → who ≡ Outside step.line.thread
  pub worker : (waiter : Waiter) → fact.begun ≡ Some waiter → IsTrue (works facts step.line.thread waiter.context)

-- the operations of two lines are noted as one, if there are any
abbrev pub NotesPair : Placing → Placing → Option ℕ → Option ℕ → Type 0
NotesPair old new (Some op) (Some number) =
    ((other : ℕ) → number_of new other ≡ (if op == other then Some number else number_of old other))
    × ((other : ℕ) → op_named new other ≡ (if number == other then Some op else op_named old other))
NotesPair old new (Some op) None = (new.numbers ≡ old.numbers) × (new.ops ≡ old.ops)
NotesPair old new None number = (new.numbers ≡ old.numbers) × (new.ops ≡ old.ops)

-- a line of the run is noted as this one of the order
pub record NotesPut (old new : Placing) (fact : Fact) (step : Step) : Type 0 where
  pub counted : new.count ≡ old.count + 1
  pub places : (other : ℕ) → position_of new other ≡ (if step.place == other then Some old.count else position_of old other)
  pub threads : (other : Frame) →
      thread_of new other ≡ (if same_frame fact.tree other then Some step.line.thread else thread_of old other)
  pub pairs : NotesPair old new (op_of fact.line.does) (op_of step.line.does)

-- some line of the run that was put has this, and so has the line of the order
pub record IsPutWith (run : List Line) (before : List Step) (Has : Spot → Line → Type 0) : Type 0 where
  pub step : Step
  pub first : Spot
  pub put : IsPut run before step first
  pub has : Has first step.line

-- two lines, of the run and of the order, name these operations
abbrev pub NamesPair : ℕ → ℕ → Spot → Line → Type 0
NamesPair op number first line = (op_of first.line.does ≡ Some op) × (op_of line.does ≡ Some number)

-- these lines were put, and no others
pub record IsPlacing (run : List Line) (apart : List ℕ) (before : List Step) (kept : Placing) : Type 0 where
  pub count : kept.count ≡ length before
  pub places : (place : ℕ) → position_of kept place ≡ position before place
  pub threads : (other : Step) (first : Spot) → IsPut run before other first →
      thread_of kept (tree apart first) ≡ Some other.line.thread
  pub numbers : (other : Step) (first : Spot) → IsPut run before other first →
      Pairs kept (op_of first.line.does) (op_of other.line.does)
  pub on : (tree_of : Frame) (thread : ℕ) → thread_of kept tree_of ≡ Some thread →
      IsPutWith run before (λ first line. (tree apart first ≡ tree_of) × (line.thread ≡ thread))
  pub numbered : (op number : ℕ) → number_of kept op ≡ Some number → IsPutWith run before (NamesPair op number)
  pub named : (op number : ℕ) → op_named kept number ≡ Some op → IsPutWith run before (NamesPair op number)

-- a line of the run may stand behind these, but that nothing is said of its causes, and of strands that have to be busy
pub record IsPutWell (run : List Line) (apart : List ℕ) (before : List Step) (step : Step) : Type 0 where
  pub spot : Spot
  pub there : spot_at run step.place ≡ Some spot
  pub once : ¬ (Stands before step.place)
  pub copied : (number : ℕ) × (step.line.does ≡ renumbered number spot.line.does)
  pub numbered : (other : Step) (first : Spot) → IsPut run before other first →
      same_op first.line.does spot.line.does ≡ same_op other.line.does step.line.does
  pub together : (other : Step) (first : Spot) → IsPut run before other first → tree apart first ≡ tree apart spot →
      other.line.thread ≡ step.line.thread
  pub outside : tree apart spot ≡ Outside spot.line.thread → step.line.thread ≡ spot.line.thread
  pub caller : (other : Step) (first : Spot) (op number : ℕ) → IsPut run before other first →
      tree apart first ≡ tree apart spot → frame spot.past spot.line.thread ≡ Execution op →
      IsTrue (begins first.line.does op) → IsTrue (begins other.line.does number) →
      frame (lines_of before) step.line.thread ≡ Execution number
  pub idle : BeginsTree apart spot → frame (lines_of before) step.line.thread ≡ Outside step.line.thread
  pub worker : (op context : ℕ) → IsTrue (begins spot.line.does op) → context_of spot.past op ≡ Some context →
      IsWorker run step.line.thread context

-- where a line calls what is set apart and was idle, its strand is busy
abbrev pub FindsBusy : List Line → List ℕ → List Step → Step → Type 0
FindsBusy run apart before step = (spot : Spot) (op strand : ℕ) → spot_at run step.place ≡ Some spot →
    IsTrue (calls spot.line.does op) → IsTrue (is_among apart op) → WasIdle run op strand → IsBusy (lines_of before) strand

abbrev pub EachIsPutWell : List Line → List ℕ → List Step → Type 0
EachIsPutWell run apart [] = Unit {0}
EachIsPutWell run apart (step ∷ before) =
    EachIsPutWell run apart before × IsPutWell run apart before step × FindsBusy run apart before step

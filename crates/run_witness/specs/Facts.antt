-- What is known of the lines of a run.
use Rattle.std.specs.Prelude.{◌≡◌, ◌↔◌, ℕ, List, [], ◌∷◌, Bool, ◌==◌, ◌&&◌, if◌then◌else◌, length, Option, Some, None, IsTrue, is_some, nat_eq}
use Rattle.std.specs.HashMap.{get}
use Rattle.std.specs.Option.{is_none, option_and_then, option_map, unwrap_or}
use Rattle.run_lines.specs.declared.line.Doing.{Doing}
use Rattle.run_lines.specs.declared.line.Doing.TheVariants as doing
use Rattle.run_lines.specs.declared.line.Line.{Line}
use Rattle.run_rules.specs.declared.taking.Resource.TheVariants.{Thing}
use Rattle.run_rules.specs.Against.{calls}
use Rattle.run_rules.specs.Legal.{IsLegalSoFar}
use Rattle.run_rules.specs.Stacks.{first_of, stack}
use Rattle.run_rules.specs.Takings.{is_taken_by}
use Rattle.run_check.specs.After.{IsAfter, loose, waiter_of}
use Rattle.run_check.specs.Called.{called_by}
use Rattle.run_check.specs.declared.waiting.Waiter.{Waiter}
use Rattle.run_orders.specs.Apart.{StandsAlone, WasIdle}
use Rattle.run_orders.specs.Causes.{ends}
use Rattle.run_orders.specs.Orders.{IsWorker}
use Rattle.run_orders.specs.Trees.{Spot, is_among, root, spot_at, tree, writer}
use Rattle.run_witness.specs.Executions.{idle_strand, is_lent, works_in}
use Rattle.run_witness.specs.declared.facts.Fact.{Fact}
use Rattle.run_witness.specs.declared.facts.Facts.{Facts}
use Rattle.run_witness.specs.declared.facts.Survey.{Survey}

-- a line ends an execution that is inside no other
abbrev pub ends_outside : Spot → Bool
ends_outside spot =
    is_none (first_of (stack (spot.line ∷ spot.past) spot.line.thread)) && is_some (ends spot.line.does)

-- what is known of the operation that is begun
abbrev pub begun_by : List Line → Doing → Option Waiter
begun_by past (doing.Begin op code size) = waiter_of past op
begun_by past _ = None

abbrev pub begun_call : Spot → Option Waiter
begun_call spot = begun_by spot.past spot.line.does

-- the innermost execution round a line that stands alone; known is that of the executions on its thread, of which this is the innermost
abbrev pub root_by : List ℕ → Doing → Option ℕ → Option ℕ → Option ℕ
root_by apart (doing.Begin op code size) None known = Some op
root_by apart (doing.Begin op code size) (Some innermost) known = if is_among apart op then Some op else known
root_by apart _ None known = None
root_by apart _ (Some innermost) known = known

-- what is known of this execution, if it is one
abbrev pub known_of : (ℕ → Option ℕ) → Option ℕ → Option ℕ
known_of found op = option_and_then found op

-- of each of these executions, innermost first, the one is known that stands alone
abbrev pub AreRooted : List ℕ → (ℕ → Option ℕ) → List ℕ → Type 0
AreRooted apart found [] = Unit {0}
AreRooted apart found (op ∷ others) = (found op ≡ root apart (op ∷ others)) × AreRooted apart found others

-- the operation that the last line of a thread calls
abbrev pub called_at : List Line → ℕ → Option ℕ
called_at [] thread = None
called_at (line ∷ past) thread = if line.thread == thread then called_by line.does else called_at past thread

abbrev pub call_known : Survey → ℕ → Option ℕ
call_known survey thread = unwrap_or (get nat_eq survey.calls thread) None

-- what is known of a line before it is followed
pub record IsFactBefore (apart : List ℕ) (fact : Fact) (spot : Spot) : Type 0 where
  pub line : fact.line ≡ spot.line
  pub tree : fact.tree ≡ tree apart spot
  pub writer : fact.writer ≡ writer spot
  pub begun : fact.begun ≡ begun_call spot

-- what is known of a line, if these executions are set apart, and somebody asks for this thing
abbrev pub fact_of : List ℕ → ℕ → Spot → Fact
fact_of apart thing spot = record {
  line = spot.line;
  tree = tree apart spot;
  writer = writer spot;
  leaves = ends_outside spot;
  begun = begun_call spot;
  has = is_taken_by (spot.line ∷ spot.past) spot.line.thread (writer spot) (Thing thing);
}

abbrev pub fact_at : Facts → ℕ → Option Fact
fact_at facts place = get nat_eq facts.by_place place

abbrev pub works : Facts → ℕ → ℕ → Bool
works facts thread context = works_in facts.executions.workers thread context

-- what is known is so, and each line may come
pub record AreFacts (apart : List ℕ) (thing : ℕ) (run : List Line) (facts : Facts) : Type 0 where
  pub legal : IsLegalSoFar loose run
  pub counted : facts.lines ≡ length run
  pub lines : (place : ℕ) → fact_at facts place ≡ option_map (fact_of apart thing) (spot_at run place)
  pub workers : (thread context : ℕ) → IsTrue (works facts thread context) ↔ IsWorker run thread context
  pub lent : (op : ℕ) → IsTrue (is_lent facts.executions op) ↔ StandsAlone run op
  pub idle : (op strand : ℕ) →
      (idle_strand facts.executions op ≡ Some strand) ↔ (IsTrue (is_among apart op) × WasIdle run op strand)

-- the line at a place calls what is set apart, and began inside its call because this strand was idle
pub record CallsIdle (run : List Line) (apart : List ℕ) (place strand : ℕ) : Type 0 where
  pub spot : Spot
  pub op : ℕ
  pub there : spot_at run place ≡ Some spot
  pub calls_it : IsTrue (calls spot.line.does op)
  pub among : IsTrue (is_among apart op)
  pub idle : WasIdle run op strand

-- these lines were seen
pub record IsSurvey (apart : List ℕ) (thing : ℕ) (past : List Line) (survey : Survey) : Type 0 where
  pub after : IsAfter past survey.checker
  pub roots : (thread : ℕ) → AreRooted apart (get nat_eq survey.roots) (stack past thread)
  pub calls : (thread : ℕ) → call_known survey thread ≡ called_at past thread
  pub facts : AreFacts apart thing past survey.facts

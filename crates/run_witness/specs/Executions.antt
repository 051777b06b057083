-- What is known of the executions of a run.
use Rattle.std.specs.Prelude.{◌≡◌, ◌≢◌, ◌⊎◌, ℕ, List, [], ◌∷◌, Bool, false, ◌==◌, ◌&&◌, if◌then◌else◌, Option, Some, None, IsTrue, nat_eq}
use Rattle.std.specs.HashMap.{get}
use Rattle.std.specs.HashSet.{HashSet, contains}
use Rattle.std.specs.Option.{option_map}
use Rattle.run_lines.specs.declared.line.Doing.{Doing}
use Rattle.run_lines.specs.declared.line.Doing.TheVariants as doing
use Rattle.run_lines.specs.declared.line.Line.{Line}
use Rattle.run_rules.specs.Calls.{begins, strand_of}
use Rattle.run_rules.specs.Stacks.{stack}
use Rattle.run_rules.specs.Starting.{Holds}
use Rattle.run_check.specs.declared.waiting.Waiter.{Waiter}
use Rattle.run_orders.specs.Apart.{IsOwn, called_last}
use Rattle.run_orders.specs.Trees.{is_among}
use Rattle.run_witness.specs.declared.executions.Executions.{Executions}

abbrev pub works_in : {S : Type 0} → HashSet (ℕ × ℕ) S → ℕ → ℕ → Bool
works_in workers thread context = contains (λ (one other : ℕ × ℕ). one.0 == other.0 && one.1 == other.1) workers
    (thread, context)

abbrev pub is_lent : Executions → ℕ → Bool
is_lent known op = contains nat_eq known.lent op

abbrev pub idle_strand : Executions → ℕ → Option ℕ
idle_strand known op = get nat_eq known.idle op

-- the context for which a line makes its thread work
abbrev pub work_of : Doing → Option Waiter → Option ℕ
work_of (doing.Work context) begun = Some context
work_of _ begun = option_map (λ (waiter : Waiter). waiter.context) begun

-- whether a thread works for a context by this
abbrev pub is_work : ℕ → Option ℕ → ℕ → ℕ → Bool
is_work thread None by to = false
is_work thread (Some context) by to = thread == by && context == to

-- what is known of any execution, where this is known of the one that a line begins
abbrev pub known_after : Doing → Option ℕ → ℕ → Option ℕ → Option ℕ
known_after (doing.Begin op code size) (Some value) other known = if op == other then Some value else known
known_after _ value other known = known

-- the operation that a line begins
abbrev pub op_begun : Doing → Option ℕ
op_begun (doing.Begin op code size) = Some op
op_begun _ = None

-- whether a line begins what is set apart, straight behind this call
abbrev pub is_straight : List ℕ → Doing → Option ℕ → Bool
is_straight apart (doing.Begin op code size) (Some called) = called == op && is_among apart op
is_straight apart _ call = false

-- a thread has a strand, if there is one
abbrev pub IsWithin : List Line → ℕ → Option ℕ → Type 0
IsWithin past thread on = (on ≡ None) ⊎ ((strand : ℕ) × (on ≡ Some strand) × Holds past thread strand)

-- a line begins this operation inside an execution, and it isn't that one's own
pub record IsLent (past : List Line) (thread : ℕ) (does : Doing) (op : ℕ) : Type 0 where
  pub begun : IsTrue (begins does op)
  pub inside : stack past thread ≢ []
  pub lent : ¬ (IsOwn past thread op)

-- a line begins this operation, which is set apart, straight behind its call, because its strand was idle
pub record IsIdle (apart : List ℕ) (past : List Line) (thread : ℕ) (does : Doing) (op strand : ℕ) : Type 0 where
  pub among : IsTrue (is_among apart op)
  pub begun : IsTrue (begins does op)
  pub straight : IsTrue (called_last past thread op)
  pub on : strand_of past op ≡ Some strand
  pub unheld : ¬ (Holds past thread strand)

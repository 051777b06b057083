-- What the checker asks of an operation that is to begin.
use Rattle.std.specs.Prelude.{◌≡◌, ◌≤◌, ℕ, List, Option, Some, None, IsSomeAnd}
use Rattle.run_lines.specs.declared.code.Code.{Code}
use Rattle.run_lines.specs.declared.code.Code.TheVariants as code
use Rattle.run_lines.specs.declared.line.Line.{Line}
use Rattle.run_rules.specs.declared.frame.Frame.TheVariants.{Execution}
use Rattle.run_check.specs.After.{spot_of}
use Rattle.run_check.specs.Stacks.{innermost_of}
use Rattle.run_check.specs.declared.stacks.Stacks.{Stacks}
use Rattle.run_check.specs.declared.waiting.CallKind.{CallKind}
use Rattle.run_check.specs.declared.waiting.CallKind.TheVariants as kind
use Rattle.run_check.specs.declared.waiting.Outcome.{Outcome}
use Rattle.run_check.specs.declared.waiting.Waiter.{Waiter}

-- what is known of its completion is what it begins with; a posting begins with success and no size
abbrev pub FitsOutcome : CallKind → Option Outcome → Code → ℕ → Type 0
FitsOutcome how (Some outcome) what size = (outcome.code ≡ what) × (outcome.size ≡ size)
FitsOutcome kind.Asynchronous None what size = Unit {0}
FitsOutcome kind.Posting None what size = (what ≡ code.Ok) × (size ≡ 0)
FitsOutcome kind.Dispatch None what size = (what ≡ code.Ok) × (size ≡ 0)

abbrev pub MayHaveOutcome : Waiter → Code → ℕ → Type 0
MayHaveOutcome waiter what size = FitsOutcome waiter.kind waiter.outcome what size

-- it is a dispatch, called by the innermost execution of the thread
abbrev pub BeginsInside : Stacks → ℕ → Waiter → Type 0
BeginsInside kept thread waiter =
    (waiter.kind ≡ kind.Dispatch) × IsSomeAnd (innermost_of kept thread) (λ op. waiter.caller ≡ Execution op)

-- some operation stands in the queue of this strand since this entry or longer
abbrev pub SomeGoesBefore : List Line → ℕ → Option ℕ → Type 0
SomeGoesBefore past strand entry = (op place : ℕ) × (spot_of past op ≡ Some (strand, place)) × IsSomeAnd entry (λ e. place ≤ e)

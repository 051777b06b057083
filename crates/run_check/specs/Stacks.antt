-- The executions that the checker keeps.
use Rattle.std.specs.Prelude.{ℕ, Option, Some, None, nat_eq}
use Rattle.std.specs.HashMap.{get}
use Rattle.std.specs.Option.{option_and_then}
use Rattle.run_rules.specs.declared.frame.Frame.{Frame}
use Rattle.run_rules.specs.declared.frame.Frame.TheVariants as frame
use Rattle.run_check.specs.declared.stacks.Execution.{Execution}
use Rattle.run_check.specs.declared.stacks.Stacks.{Stacks}

abbrev pub innermost_of : Stacks → ℕ → Option ℕ
innermost_of kept thread = get nat_eq kept.innermost thread

abbrev pub execution_of : Stacks → ℕ → Option Execution
execution_of kept op = get nat_eq kept.executions op

-- who writes, where this is the innermost execution of a thread
abbrev pub frame_at : Option ℕ → ℕ → Frame
frame_at None thread = frame.Outside thread
frame_at (Some op) thread = frame.Execution op

abbrev pub outer_of : Option Execution → Option ℕ
outer_of found = option_and_then (λ (e : Execution). e.outer) found

abbrev pub strand_let_in : Option Execution → Option ℕ
strand_let_in found = option_and_then (λ (e : Execution). e.strand) found

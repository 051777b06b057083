-- What an execution answers, and what it did.
use Rattle.std.specs.Prelude.{◌≡◌, ℕ, List, ◌++◌, false, IsSome, ⊤}
use Rattle.asio_types.specs.Code.{class_of_code}
use Rattle.asio_types.specs.declared.code.Code.{Code}
use Rattle.op_handlers.specs.Marks.{Marks, call_of}
use Rattle.op_handlers.specs.declared.call.Call.{Call}
use Rattle.session_script.specs.Script.{ScriptModel, branch_of}
use Rattle.session_script.specs.Lanes.{is_inline}
use Rattle.strand_core.specs.Execution.{AreCalls, IsWholeExecution, AnyMark, execution_of}
use Rattle.strand_core.specs.Hands.{Held, held_at, HasRunMark, begins_among, left_at}
use Rattle.strand_core.specs.declared.posted.Posted.{Posted}
use Rattle.strand_core.specs.declared.execution.Execution.{Execution}
use Rattle.strand_core.specs.declared.execution.Execution.TheVariants as execution

-- an operation whose handler is held, and which executes by itself
abbrev pub CanExecute : {H : Type 0} → Held H → ℕ → Type 0
CanExecute hands op = IsSome (held_at hands op) × (is_inline hands.script op ≡ false)

-- a poster takes every whole execution of an operation with its code and size, whatever the marks
-- of its ends
abbrev pub TakesWhole : (List Posted → Type 0) → ScriptModel → ℕ → Code → ℕ → Type 0
TakesWhole Takes script op code size =
    (calls : List Posted) → IsWholeExecution script AnyMark op code size calls → Takes calls

-- where the execution is whole
abbrev pub IfWhole : Execution → (ℕ → Type 0) → Type 0
IfWhole (execution.Whole mark) P = P mark
IfWhole (execution.Missing op) P = ⊤

-- where no handler is found
abbrev pub IfMissing : Execution → (ℕ → Type 0) → Type 0
IfMissing (execution.Whole mark) P = ⊤
IfMissing (execution.Missing op) P = P op

-- these calls and no other were made; the handlers of the operations that began in them were spent
-- and the others stayed; and what would have been taken after these calls is taken now
pub record HasMade {H : Type 0} (calls : List Posted) (old new : Held H)
    (old_made new_made : List Posted) (OldTakes NewTakes : List Posted → Type 0) : Type 0 where
  pub made : new_made ≡ old_made ++ calls
  pub script : new.script ≡ old.script
  pub spent : (n : ℕ) → held_at new n ≡ left_at (begins_among n calls) (held_at old n)
  pub rest : (rest : List Posted) → OldTakes (calls ++ rest) → NewTakes rest

-- one whole execution was made, with the marks of the handlers that were held; the operation's own
-- handler answered this one
pub record HasExecuted {H : Type 0} (marks : H → Marks) (mark op : ℕ) (code : Code) (size : ℕ)
    (old new : Held H) (old_made new_made : List Posted) (OldTakes NewTakes : List Posted → Type 0)
    : Type 0 where
  pub calls : List Posted
  pub whole : IsWholeExecution old.script (HasRunMark marks old) op code size calls
  pub answered : mark ≡ whole.mark
  pub did : HasMade calls old new old_made new_made OldTakes NewTakes

-- the same of an operation whose handler, which answers so, was taken before
pub record HasRun {H : Type 0} (marks : H → Marks) (answers : Call → ℕ) (mark op : ℕ) (code : Code)
    (size : ℕ) (old new : Held H) (old_made new_made : List Posted) (OldTakes NewTakes : List Posted → Type 0)
    : Type 0 where
  pub begun : ℕ
  pub body : List Posted
  pub answered : mark ≡ answers (call_of op code size begun)
  pub acts : AreCalls old.script (HasRunMark marks old)
      (branch_of old.script op (class_of_code code)) body
  pub did : HasMade (execution_of op code size begun mark body) old new old_made new_made OldTakes
      NewTakes

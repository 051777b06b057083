-- How an operation takes what a call on its stream answered: what the rules of streams give on so
-- many bytes.
use Rattle.std.specs.Prelude.{ℕ, Option, Some, None, length}
use Rattle.asio_types.specs.declared.code.Code.{Code}
use Rattle.asio_types.specs.declared.code.Code.TheVariants as code
use Rattle.asio_types.specs.declared.outside.Moved.{Moved}
use Rattle.asio_types.specs.declared.outside.Moved.TheVariants as moved
use Rattle.stream_rules.specs.Moving.{moved_count}
use Rattle.stream_rules.specs.Serving.{Reading, Some_bytes, All_bytes, Until, Writing, Some_of, All_of, Outcome, all_of, ended_by, some_of}
use Rattle.composed_ops.specs.declared.step.MachineStep.{MachineStep}
use Rattle.composed_ops.specs.declared.step.MachineStep.TheVariants as step
use Rattle.composed_ops.specs.StreamOperation.{StreamOperation, Reads, Writes}
use Rattle.composed_ops.specs.Progress.{StreamProgress}

-- the mark that an answer tells, where `End` stands for this code
abbrev pub told_code : Code → Moved → Option Code
told_code end (moved.Took count) = None
told_code end moved.End = Some end
told_code end moved.NotYet = None
told_code end moved.Reset = Some code.Reset

-- what a read gives on what a call brought; one until a delimiter looks for it when it is asked
-- next
abbrev pub reading_outcome : Reading → ℕ → Moved → Option Outcome
reading_outcome (Some_bytes size) before answer =
    (some_of size (moved_count answer) (told_code code.Eof answer)).outcome
reading_outcome (All_bytes size) before answer =
    (all_of size before (moved_count answer) (told_code code.Eof answer)).outcome
reading_outcome (Until delimiter max) before answer = ended_by (told_code code.Eof answer) 0

-- what a write gives on what a call took
abbrev pub writing_outcome : Writing → ℕ → Moved → Option Outcome
writing_outcome (Some_of bytes) before answer =
    (some_of (length bytes) (moved_count answer) (told_code code.Broken answer)).outcome
writing_outcome (All_of bytes) before answer =
    (all_of (length bytes) before (moved_count answer) (told_code code.Broken answer)).outcome

abbrev pub asking_outcome : StreamOperation → ℕ → Moved → Option Outcome
asking_outcome (Reads reading) before answer = reading_outcome reading before answer
asking_outcome (Writes writing) before answer = writing_outcome writing before answer

-- how it completes by an answer, unless it goes on
abbrev pub outcome_by : StreamProgress → Moved → Option Outcome
outcome_by progress answer = asking_outcome progress.asks progress.moved answer

abbrev pub step_of : Option Outcome → MachineStep
step_of None = step.Again
step_of (Some (code, size)) = step.Done code size

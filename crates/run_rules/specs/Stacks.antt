-- Which handlers execute on a thread, and who writes its lines (Overview, "Threads and Boost.Asio": handlers are
-- called by threads that call run(), and by no others). The newest line stands first in all lists of lines.
use Rattle.std.specs.Prelude.{ℕ, List, [], ◌∷◌, Bool, false, ◌==◌, if◌then◌else◌, Option, Some, None}
use Rattle.run_lines.specs.declared.line.Doing.{Doing}
use Rattle.run_lines.specs.declared.line.Doing.TheVariants as doing
use Rattle.run_lines.specs.declared.line.Line.{Line}
use Rattle.run_rules.specs.declared.frame.Frame.{Frame}
use Rattle.run_rules.specs.declared.frame.Frame.TheVariants.{Execution, Outside}

-- without the innermost one
abbrev pub outer : List ℕ → List ℕ
outer [] = []
outer (op ∷ within) = within

abbrev pub first_of : List ℕ → Option ℕ
first_of [] = None
first_of (op ∷ others) = Some op

-- what a line of a thread makes of the executions on it: a begin adds one inside, an end takes the innermost away
abbrev pub stack_after : Doing → List ℕ → List ℕ
stack_after (doing.Begin op code size) within = op ∷ within
stack_after (doing.End op) within = outer within
stack_after (doing.Throw op) within = outer within
stack_after _ within = within

-- the executions on a thread, innermost first
abbrev pub stack : List Line → ℕ → List ℕ
stack [] thread = []
stack (line ∷ past) thread = if line.thread == thread then stack_after line.does (stack past thread) else stack past thread

-- the innermost of these executions, or the outside of their thread
abbrev pub frame_of : List ℕ → ℕ → Frame
frame_of [] thread = Outside thread
frame_of (op ∷ within) thread = Execution op

-- who writes the next line of a thread
abbrev pub frame : List Line → ℕ → Frame
frame past thread = frame_of (stack past thread) thread

abbrev pub same_frame : Frame → Frame → Bool
same_frame (Execution op) (Execution other) = op == other
same_frame (Outside thread) (Outside other) = thread == other
same_frame (Execution op) (Outside thread) = false
same_frame (Outside thread) (Execution op) = false

-- The handlers of operations that were never initiated: a context destroys them when it ends, and no event
-- shows it (Asio reference, io_context::~io_context).
use Rattle.std.specs.Prelude.{ℕ, Bool, List, not, ◌&&◌, length, if◌then◌else◌}
use Rattle.std.specs.List.{range_with_len, sum_by}
use Rattle.asio_types.specs.declared.event.Event.{Event}
use Rattle.session_script.specs.Script.{ScriptModel, is_op}
use Rattle.history_rules.specs.Legal.{state_of}
use Rattle.history_rules.specs.State.{State, call_at}
use Rattle.execution_laws.specs.Kinds.{was_called}

-- an operation of the script whose call has been made in this state
abbrev pub is_initiated : ScriptModel → State → ℕ → Bool
is_initiated script s n = is_op script n && was_called (call_at s.context n)

-- one whose call hasn't
abbrev pub is_uninitiated : ScriptModel → State → ℕ → Bool
is_uninitiated script s n = is_op script n && not (was_called (call_at s.context n))

-- its handler's drop mark, 0 for any other act
abbrev pub let_go_mark : ScriptModel → (ℕ → ℕ) → State → ℕ → ℕ
let_go_mark script drop s n = if is_uninitiated script s n then drop n else 0

-- the sum of the drop marks of the handlers of the operations that a history doesn't initiate
abbrev pub let_go_marks : ScriptModel → Bool → (ℕ → ℕ) → List Event → ℕ
let_go_marks script told drop events =
    sum_by (let_go_mark script drop (state_of script told events))
    (range_with_len 0 (length script.acts))

-- The outstanding work of a session at rest (Asio reference, io_context::run; executor_work_guard).
use Rattle.std.specs.Prelude.{◌≡◌, ℕ, ◌+◌, Bool, true, false, ◌&&◌, List, length, count_by}
use Rattle.std.specs.List.{range_with_len}
use Rattle.asio_types.specs.declared.code.Code.{Code}
use Rattle.session_script.specs.Script.{ScriptModel}
use Rattle.history_rules.specs.declared.phase.ActPhase.{ActPhase}
use Rattle.history_rules.specs.declared.phase.ActPhase.TheVariants as phase
use Rattle.history_rules.specs.Order.{was_taken}
use Rattle.history_rules.specs.Rounds.{is_held, outstanding_work}
use Rattle.history_rules.specs.State.{State, phase_at}
use Rattle.execution_laws.specs.Order.{IsKept}

abbrev pub is_requested : ActPhase → Bool
is_requested phase.Requested = true
is_requested _ = false

-- an operation that was taken and hasn't completed
abbrev pub is_pending : State → ℕ → Bool
is_pending s n = is_requested (phase_at s.context n) && was_taken s.reactor n

abbrev pub pending_acts : State → ℕ
pending_acts s = count_by (is_pending s) (range_with_len 0 (length s.context.acts))

-- at rest the outstanding work is what is ready, what waits to be taken, what is pending, and the
-- guards
abbrev pub WorkIsListed : Type 0
WorkIsListed =
    (script : ScriptModel) (s : State) (ready : List (ℕ × Code × ℕ)) (requests : List ℕ) →
    IsKept script s ready requests →
    outstanding_work s
    ≡ length ready + length requests + pending_acts s + count_by is_held s.reactor.guards

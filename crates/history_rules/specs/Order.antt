-- Which of two ready handlers of a lane goes first, and which of two requests (Asio reference,
-- io_context::strand, "Order of handler invocation"; the order of requests is this project's own).
use Rattle.std.specs.Prelude.{◌≡◌, ℕ, Bool, true, false, not, ◌&&◌, nat_lt}
use Rattle.std.specs.List.{slice_index_or}
use Rattle.session_script.specs.Script.{ScriptModel}
use Rattle.session_script.specs.Lanes.{lane_of}
use Rattle.history_rules.specs.declared.phase.ActPhase.{ActPhase}
use Rattle.history_rules.specs.declared.phase.ActPhase.TheVariants as phase
use Rattle.history_rules.specs.declared.phase.ActState.{ActState}
use Rattle.history_rules.specs.declared.phase.CallPhase.{CallPhase}
use Rattle.history_rules.specs.declared.phase.CallPhase.TheVariants as call
use Rattle.history_rules.specs.declared.phase.Cause.{Cause}
use Rattle.history_rules.specs.declared.phase.Cause.TheVariants as cause
use Rattle.history_rules.specs.State.{State, ContextState, ReactorHalf, act_at, call_at, phase_at}

-- where the call was made
abbrev pub called_at : CallPhase → ℕ
called_at call.Uncalled = 0
called_at (call.Open called) = called
called_at (call.Stopping called) = called
called_at (call.Back called back) = called

-- the call returned before this place
abbrev pub is_back_before : ℕ → CallPhase → Bool
is_back_before place call.Uncalled = false
is_back_before place (call.Open called) = false
is_back_before place (call.Stopping called) = false
is_back_before place (call.Back called back) = nat_lt back place

-- of two handlers that became ready by these causes, whose operations were called so: the first one
-- is before the second
abbrev pub is_before : CallPhase → Cause → CallPhase → Cause → Bool
is_before first cause.Posted second cause.Posted = is_back_before (called_at second) first
is_before first cause.Posted second (cause.Completed done turn) = is_back_before turn first
is_before first (cause.Completed done turn) second cause.Posted = nat_lt done (called_at second)
is_before first (cause.Completed done turn) second (cause.Completed later_done later_turn) =
    nat_lt done later_done

-- the first act is ready and before the second, if that is ready
abbrev pub is_ready_before : CallPhase → ActPhase → CallPhase → ActPhase → Bool
is_ready_before first (phase.Ready code size why) second
    (phase.Ready other_code other_size because) =
    is_before first why second because
is_ready_before first _ second _ = false

abbrev pub goes_before : ActState → ActState → Bool
goes_before first second = is_ready_before first.call first.phase second.call second.phase

-- no ready handler of its lane goes before it
abbrev pub IsFirstOfLane : ScriptModel → ContextState → ℕ → Type 0
IsFirstOfLane script s o =
    (other : ℕ) → lane_of script other ≡ lane_of script o →
    goes_before (act_at s other) (act_at s o) ≡ false

-- an operation or a control act that the reactor has to take
abbrev pub is_request : ActPhase → Bool
is_request phase.Requested = true
is_request phase.Asked = true
is_request _ = false

abbrev pub was_taken : ReactorHalf → ℕ → Bool
was_taken r n = slice_index_or r.taken n false

-- a request that wasn't taken
abbrev pub is_untaken : State → ℕ → Bool
is_untaken s n = is_request (phase_at s.context n) && not (was_taken s.reactor n)

-- no other request returned before this one was made
abbrev pub IsFirstRequest : State → ℕ → Type 0
IsFirstRequest s a =
    (other : ℕ) → is_untaken s other ≡ true →
    is_back_before (called_at (call_at s.context a)) (call_at s.context other) ≡ false

-- The ready operations and the untaken requests of a session, oldest first.
use Rattle.std.specs.Prelude.{◌≡◌, ◌<◌, ◌≤◌, ℕ, Bool, true, false, List, ◌∷◌, All, AllPairs, Any}
use Rattle.std.specs.Option.{unwrap_or}
use Rattle.asio_types.specs.declared.code.Code.{Code}
use Rattle.session_script.specs.Script.{ScriptModel}
use Rattle.history_rules.specs.declared.phase.ActPhase.{ActPhase}
use Rattle.history_rules.specs.declared.phase.ActPhase.TheVariants as phase
use Rattle.history_rules.specs.declared.phase.CallPhase.{CallPhase}
use Rattle.history_rules.specs.declared.phase.CallPhase.TheVariants as call
use Rattle.history_rules.specs.declared.phase.Cause.TheVariants as cause
use Rattle.history_rules.specs.Executions.{IsReadyWith}
use Rattle.history_rules.specs.Order.{IsFirstOfLane, IsFirstRequest, called_at, is_untaken}
use Rattle.history_rules.specs.State.{ContextState, State, call_at, phase_at}

abbrev pub is_ready : ActPhase → Bool
is_ready (phase.Ready code size why) = true
is_ready _ = false

-- where an operation became ready: a posting where it was called, any other where its completion
-- was told
abbrev pub ready_since : CallPhase → ActPhase → ℕ
ready_since made (phase.Ready code size cause.Posted) = called_at made
ready_since made (phase.Ready code size (cause.Completed done turn)) = done
ready_since made _ = 0

abbrev pub ready_at : ContextState → ℕ → ℕ
ready_at s n = ready_since (call_at s n) (phase_at s n)

-- where a request was made
abbrev pub asked_at : ContextState → ℕ → ℕ
asked_at s n = called_at (call_at s n)

-- exactly the operations that are ready, each with its code and size, oldest first
pub record AreReady (s : ContextState) (ready : List (ℕ × Code × ℕ)) : Type 0 where
  pub each : All (λ item. IsReadyWith (phase_at s item.0) item.1 item.2) ready
  pub all : (n : ℕ) → is_ready (phase_at s n) ≡ true → Any (λ item. item.0 ≡ n) ready
  pub oldest_first : AllPairs (λ older newer. ready_at s older.0 < ready_at s newer.0) ready

-- exactly the requests that wait to be taken, oldest first
pub record AreUntaken (s : State) (requests : List ℕ) : Type 0 where
  pub each : All (λ n. is_untaken s n ≡ true) requests
  pub all : (n : ℕ) → is_untaken s n ≡ true → Any (λ request. request ≡ n) requests
  pub oldest_first : AllPairs (λ older newer. asked_at s.context older < asked_at s.context newer)
      requests

-- the places of a call are behind us, the return after the call
abbrev pub IsCallPast : ℕ → CallPhase → Type 0
IsCallPast now call.Uncalled = Unit {0}
IsCallPast now (call.Open called) = called < now
IsCallPast now (call.Stopping called) = called < now
IsCallPast now (call.Back called back) = (called ≤ back) × (back < now)

-- and so are those of a completion, which was told after its turn began
abbrev pub IsCausePast : ℕ → ActPhase → Type 0
IsCausePast now (phase.Ready code size (cause.Completed done turn)) = (turn ≤ done) × (done < now)
IsCausePast now _ = Unit {0}

-- each place that a state names is behind us
pub record IsDated (s : ContextState) : Type 0 where
  pub calls : (n : ℕ) → IsCallPast s.events (call_at s n)
  pub causes : (n : ℕ) → IsCausePast s.events (phase_at s n)
  pub turn : unwrap_or s.turn 0 ≤ s.events

-- the oldest ready operation is the first of its lane
abbrev pub OldestIsFirstOfLane : Type 0
OldestIsFirstOfLane =
    (script : ScriptModel) (s : ContextState) (op : ℕ) (code : Code) (size : ℕ)
    (newer : List (ℕ × Code × ℕ)) →
    IsDated s → AreReady s ((op, code, size) ∷ newer) → IsFirstOfLane script s op

-- the oldest untaken request is the first
abbrev pub OldestIsFirstRequest : Type 0
OldestIsFirstRequest =
    (s : State) (a : ℕ) (newer : List ℕ) → IsDated s.context → AreUntaken s (a ∷ newer) →
    IsFirstRequest s a

-- The order of a session that is kept oldest first.
use Rattle.std.specs.Prelude.{◌≡◌, ◌<◌, ℕ, ◌+◌, Bool, true, false, List, ◌∷◌, ◌++◌, Some, length, map}
use Rattle.asio_types.specs.Faults.{most_faults}
use Rattle.asio_types.specs.declared.code.Class.{Class}
use Rattle.asio_types.specs.declared.code.Code.{Code}
use Rattle.asio_types.specs.declared.code.Code.TheVariants as code
use Rattle.session_script.specs.Script.{ScriptModel, opening_of, parent_of}
use Rattle.session_script.specs.Lanes.{is_inline}
use Rattle.session_script.specs.WellFormed.{IsWellFormed}
use Rattle.history_rules.specs.declared.phase.ActPhase.{ActPhase}
use Rattle.history_rules.specs.declared.phase.ActPhase.TheVariants as phase
use Rattle.history_rules.specs.declared.phase.CallPhase.TheVariants as call
use Rattle.history_rules.specs.Executions.{MayBeginOutside}
use Rattle.history_rules.specs.Legal.{state_from, state_of}
use Rattle.history_rules.specs.Order.{is_request, was_taken}
use Rattle.history_rules.specs.State.{State, call_at, phase_at}
use Rattle.strand_core.specs.declared.posted.Posted.{Posted}
use Rattle.strand_core.specs.Execution.{AnyMark, AreCalls, IsWholeExecution, events_of}
use Rattle.execution_laws.specs.Called.{called_as}
use Rattle.execution_laws.specs.Ready.{AreReady, AreUntaken, IsDated, is_ready}
use Rattle.execution_laws.specs.Rest.{IsAtRest}

abbrev pub has_begun : ActPhase → Bool
has_begun (phase.Running class progress) = true
has_begun phase.Ended = true
has_begun _ = false

-- each place that a state names is behind us, nothing has become of an act before its call, and an
-- act of a branch is called once its operation has begun
pub record IsOrderly (script : ScriptModel) (s : State) : Type 0 where
  pub dated : IsDated s.context
  pub uncalled : (n : ℕ) → call_at s.context n ≡ call.Uncalled → phase_at s.context n ≡ phase.Absent
  pub untaken : (n : ℕ) → call_at s.context n ≡ call.Uncalled → was_taken s.reactor n ≡ false
  pub branches : (n op : ℕ) (class : Class) → parent_of script n ≡ Some (op, class) →
      has_begun (phase_at s.context op) ≡ false → call_at s.context n ≡ call.Uncalled

-- an orderly session at rest, its ready operations and its untaken requests, both oldest first
pub record IsKept (script : ScriptModel) (s : State) (ready : List (ℕ × Code × ℕ))
    (requests : List ℕ) : Type 0 where
  pub rest : IsAtRest script s.context
  pub orderly : IsOrderly script s
  pub are_ready : AreReady s.context ready
  pub are_untaken : AreUntaken s requests

-- the postings among these calls that are ready, in order of their calls
abbrev pub postings_of : ScriptModel → List Posted → List (ℕ × Code × ℕ)
postings_of script calls = map (λ op. (op, code.Ok, 0)) (called_as is_ready script calls)

-- the requests among these calls, in order of their calls
abbrev pub requests_of : ScriptModel → List Posted → List ℕ
requests_of script calls = called_as is_request script calls

-- when the oldest ready operation has executed, the others stay in their order, with what it called
-- behind them
abbrev pub ExecutionsKeepOrder : Type 0
ExecutionsKeepOrder =
    (script : ScriptModel) (told : Bool) (s : State) (op : ℕ) (code : Code) (size : ℕ)
    (calls : List Posted) (newer : List (ℕ × Code × ℕ)) (requests : List ℕ) →
    IsWellFormed script → IsKept script s ((op, code, size) ∷ newer) requests →
    is_inline script op ≡ false →
    MayBeginOutside script s.context op code size →
    IsWholeExecution script AnyMark op code size calls →
    s.context.events + length (events_of script calls) < most_faults →
    IsKept script (state_from script told s (events_of script calls))
    (newer ++ postings_of script calls) (requests ++ requests_of script calls)

-- after the calls of `open` what they called is there in their order
abbrev pub OpeningsBeginOrder : Type 0
OpeningsBeginOrder =
    (script : ScriptModel) (told : Bool) (calls : List Posted) →
    IsWellFormed script → AreCalls script AnyMark (opening_of script) calls →
    length (events_of script calls) < most_faults →
    IsKept script (state_of script told (events_of script calls)) (postings_of script calls)
    (requests_of script calls)

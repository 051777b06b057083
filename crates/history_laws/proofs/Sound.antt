-- What holds of the states of legal histories.
use Rattle.std.proofs.Common.{◌≡◌, ◌≢◌, ◌⊎◌, ℕ, ◌+◌, ◌≤◌, ◌==◌, Bool, true, false, List, [], Some, None, length}
use Rattle.std.specs.List.{count_by, sum_by}
use Rattle.std.specs.Prelude.{slice_get}
use Rattle.asio_types.specs.declared.code.Class.{Class}
use Rattle.asio_types.specs.declared.code.Code.TheVariants as code
use Rattle.session_script.specs.Lanes.{is_inline}
use Rattle.session_script.specs.Script.{Place, ScriptModel, is_op, parent_of, same_class}
use Rattle.stream_rules.specs.declared.queue.Completion.{Completion}
use Rattle.history_rules.specs.Calls.{is_open}
use Rattle.history_rules.specs.Kinds.{is_act, is_posting}
use Rattle.history_rules.specs.Order.{was_taken}
use Rattle.history_rules.specs.Performing.{is_of, is_wait_for}
use Rattle.history_rules.specs.Rounds.{AllClosed, is_running}
use Rattle.history_rules.specs.State.{ContextState, ReactorHalf, State, StreamQueues, act_at, call_at, phase_at}
use Rattle.history_rules.specs.declared.phase.ActPhase.{ActPhase}
use Rattle.history_rules.specs.declared.phase.ActPhase.TheVariants as phase
use Rattle.history_rules.specs.declared.phase.ActState.{ActState}
use Rattle.history_rules.specs.declared.phase.CallPhase.{CallPhase}
use Rattle.history_rules.specs.declared.phase.CallPhase.TheVariants as call
use Rattle.history_rules.specs.declared.phase.Cause.TheVariants as cause
use Rattle.history_laws.specs.AfterCompletion.{IsAsynchronous}
use Rattle.history_laws.proofs.BodyLemmas.{body_of}
use Rattle.history_laws.proofs.CountLemmas.{one_if}

-- a call of the body at this index wasn't made, by what the operation has come to
abbrev pub AheadIn : Class → ActPhase → ℕ → Type 0
AheadIn class (phase.Running running progress) k = (same_class running class ≡ true) × (progress.made ≤ k)
AheadIn class phase.Ended k = ⊥
AheadIn class phase.Absent k = Unit {0}
AheadIn class phase.Inside k = Unit {0}
AheadIn class phase.Requested k = Unit {0}
AheadIn class (phase.Ready given size why) k = Unit {0}
AheadIn class phase.Dropped k = Unit {0}
AheadIn class phase.Asked k = Unit {0}

abbrev pub IsAhead : ContextState → Place → ℕ → Type 0
IsAhead c None k = c.opening.made ≤ k
IsAhead c (Some at) k = AheadIn at.1 (phase_at c at.0) k

-- the running handler of this class makes the call of this act
abbrev pub CallsIn : List ℕ → Class → ActPhase → ℕ → Type 0
CallsIn acts class (phase.Running running progress) n =
    (running ≡ class) × (slice_get acts progress.back ≡ Some n) × (progress.made ≡ progress.back + 1)
CallsIn acts class _ n = ⊥

-- the body in this place makes it
abbrev pub Calls : ScriptModel → ContextState → Place → ℕ → Type 0
Calls script c None n =
    (slice_get (body_of script None) c.opening.back ≡ Some n) × (c.opening.made ≡ c.opening.back + 1)
Calls script c (Some at) n = CallsIn (body_of script (Some at)) at.1 (phase_at c at.0) n

-- what an act whose call was made may have become
abbrev pub IsPhaseOf : ScriptModel → ℕ → CallPhase → ActPhase → Type 0
IsPhaseOf script n made phase.Absent = is_op script n ≡ false
IsPhaseOf script n made phase.Inside = (is_inline script n ≡ true) × (is_open made ≡ true)
IsPhaseOf script n made phase.Requested = IsAsynchronous script n
IsPhaseOf script n made (phase.Ready given size cause.Posted) =
    (is_act is_posting script n ≡ true) × (given ≡ code.Ok) × (size ≡ 0)
IsPhaseOf script n made (phase.Ready given size (cause.Completed done turn)) = IsAsynchronous script n
IsPhaseOf script n made (phase.Running class progress) = is_op script n ≡ true
IsPhaseOf script n made phase.Ended = is_op script n ≡ true
IsPhaseOf script n made phase.Dropped = is_op script n ≡ true
IsPhaseOf script n made phase.Asked = is_op script n ≡ false

pub record IsKind (script : ScriptModel) (n : ℕ) (act : ActState) : Type 0 where
  pub uncalled : act.call ≡ call.Uncalled → act.phase ≡ phase.Absent
  pub made : act.call ≢ call.Uncalled → IsPhaseOf script n act.call act.phase

-- how often an operation is due, is queued at a stream, and is pending in all
abbrev pub due_of : ℕ → List Completion → ℕ
due_of n due = count_by (λ (completion : Completion). completion.op == n) due

abbrev pub queued_of : ℕ → StreamQueues → ℕ
queued_of n queues = count_by (is_of n) queues.reads + count_by (is_of n) queues.writes

abbrev pub pending_of : ℕ → ReactorHalf → ℕ
pending_of n r = count_by (is_wait_for n) r.waits + sum_by (queued_of n) r.queues + due_of n r.due

-- the reactor may have it
abbrev pub may_pend : ActPhase → Bool → Bool
may_pend phase.Requested taken = taken
may_pend phase.Dropped taken = taken
may_pend _ taken = false

-- nothing runs, and nothing is left to complete
pub record IsDone (s : State) : Type 0 where
  pub quiet : (n : ℕ) → is_running (phase_at s.context n) ≡ false
  pub told : s.reactor.due ≡ []
  pub turn : s.context.turn ≡ None

pub record IsSound (script : ScriptModel) (s : State) : Type 0 where
  pub acts : length s.context.acts ≡ length script.acts
  pub takes : length s.reactor.taken ≡ length script.acts
  pub kinds : (n : ℕ) → IsKind script n (act_at s.context n)
  pub bodies : (place : Place) (n k : ℕ) → slice_get (body_of script place) k ≡ Some n →
      IsAhead s.context place k → call_at s.context n ≡ call.Uncalled
  pub calls : (n : ℕ) → is_open (call_at s.context n) ≡ true → Calls script s.context (parent_of script n) n
  pub pending : (n : ℕ) →
      pending_of n s.reactor ≤ one_if (may_pend (phase_at s.context n) (was_taken s.reactor n))
  pub closed : AllClosed script s.context → IsDone s
  pub dropped : (n : ℕ) → phase_at s.context n ≡ phase.Dropped →
      (AllClosed script s.context ⊎ (s.reactor.failed ≡ true)) × (s.context.dropping ≡ true)

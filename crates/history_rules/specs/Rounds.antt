-- When a round is open, how it closes, and what is destroyed in the end (Asio reference,
-- io_context::run, ::poll, ::stop, ::restart and ::~io_context; executor_work_guard).
use Rattle.std.specs.Prelude.{◌≡◌, ◌<◌, ◌≤◌, ◌⊎◌, ℕ, ◌+◌, Bool, true, false, not, Option, Some, None, [], length, All, count_by, slice_get}
use Rattle.std.specs.List.{range_with_len}
use Rattle.asio_types.specs.Faults.{one_more}
use Rattle.session_script.specs.Script.{ScriptModel, opening_of}
use Rattle.session_script.specs.declared.round.Pace.{Pace}
use Rattle.session_script.specs.declared.round.Pace.TheVariants as pace
use Rattle.session_script.specs.declared.round.Round.{Round}
use Rattle.history_rules.specs.declared.phase.ActPhase.{ActPhase}
use Rattle.history_rules.specs.declared.phase.ActPhase.TheVariants as phase
use Rattle.history_rules.specs.declared.phase.Allowance.TheVariants as allowance
use Rattle.history_rules.specs.State.{State, ContextState, ReactorHalf, StreamQueues, each_lane, phase_at, with_phase, counted}
use Rattle.history_rules.specs.Calls.{is_open}
use Rattle.history_rules.specs.Order.{was_taken}

-- the round after those that are closed
abbrev pub this_round : ScriptModel → ContextState → Option Round
this_round script s = slice_get script.rounds s.closings

abbrev pub restarts : Option Round → Bool
restarts None = false
restarts (Some round) = round.restart

abbrev pub is_run : Pace → Bool
is_run pace.Run = true
is_run pace.Poll = false

-- whether its workers call io_context::run, and not ::poll
abbrev pub runs : Option Round → Bool
runs None = false
runs (Some round) = is_run round.pace

-- all calls of `open` are back, and not all rounds are closed
pub record HasRoundLeft (script : ScriptModel) (s : ContextState) : Type 0 where
  pub opened : s.opening.back ≡ length (opening_of script)
  pub left : s.closings < length script.rounds

-- workers may call the context: a round is left, its restart has come, and no handler was destroyed
pub record RoundIsOpen (script : ScriptModel) (s : ContextState) : Type 0 where
  pub begun : HasRoundLeft script s
  pub restarted : restarts (this_round script s) ≡ true → s.restarted ≡ true
  pub alive : s.dropping ≡ false

abbrev pub is_running : ActPhase → Bool
is_running (phase.Running class progress) = true
is_running _ = false

abbrev pub NothingRuns : ContextState → Type 0
NothingRuns s = All (λ act. is_running act.phase ≡ false) s.acts

abbrev pub NoCallIsOpen : ContextState → Type 0
NoCallIsOpen s = All (λ act. is_open act.call ≡ false) s.acts

-- an operation that was accepted and whose handler wasn't spent
abbrev pub is_unspent : ActPhase → Bool
is_unspent phase.Absent = false
is_unspent phase.Inside = true
is_unspent phase.Requested = true
is_unspent (phase.Ready code size cause) = true
is_unspent (phase.Running class progress) = true
is_unspent phase.Ended = false
is_unspent phase.Dropped = false
is_unspent phase.Asked = false

-- an act that keeps the context from running out of work: an unspent operation, or a control act
-- that wasn't taken
abbrev pub is_outstanding : ActPhase → Bool → Bool
is_outstanding phase.Asked taken = not taken
is_outstanding other taken = is_unspent other

abbrev pub is_held : Bool → Bool
is_held held = held

abbrev pub is_act_outstanding : State → ℕ → Bool
is_act_outstanding s n = is_outstanding (phase_at s.context n) (was_taken s.reactor n)

-- the outstanding work of the context (Asio reference, executor_work_guard)
abbrev pub outstanding_work : State → ℕ
outstanding_work s =
    count_by (is_act_outstanding s) (range_with_len 0 (length s.context.acts))
    + count_by is_held s.reactor.guards

-- no operation of a stream is pending
abbrev pub IsEmptied : StreamQueues → Type 0
IsEmptied queues = (queues.reads ≡ []) × (queues.writes ≡ [])

-- after the last time point each operation of a stream completes before the next turn or closing
abbrev pub IsDrained : ReactorHalf → Type 0
IsDrained r = r.last ≡ true → All IsEmptied r.queues

-- the context ran out of work
pub record MayEndRound (script : ScriptModel) (s : State) : Type 0 where
  pub round : RoundIsOpen script s.context
  pub going : s.context.stopped ≡ false
  pub idle : outstanding_work s ≡ 0

-- the context was stopped, and all its workers have returned
pub record MayStopRound (script : ScriptModel) (s : State) : Type 0 where
  pub round : RoundIsOpen script s.context
  pub stopped : s.context.stopped ≡ true
  pub quiet : NothingRuns s.context
  pub back : NoCallIsOpen s.context
  pub told : s.reactor.due ≡ []
  pub drained : IsDrained s.reactor
  pub working : s.reactor.failed ≡ false

-- no handler is ready or runs, and no request waits
abbrev pub is_quiet : ActPhase → Bool → Bool
is_quiet (phase.Ready code size cause) taken = false
is_quiet (phase.Running class progress) taken = false
is_quiet phase.Requested taken = taken
is_quiet phase.Asked taken = taken
is_quiet _ taken = true

abbrev pub AllQuiet : State → Type 0
AllQuiet s = (n : ℕ) → is_quiet (phase_at s.context n) (was_taken s.reactor n) ≡ true

-- polling has done all that it can without waiting
pub record MayEndPoll (script : ScriptModel) (s : State) : Type 0 where
  pub round : RoundIsOpen script s.context
  pub polls : runs (this_round script s.context) ≡ false
  pub going : s.context.stopped ≡ false
  pub outstanding : 1 ≤ outstanding_work s
  pub idle : AllQuiet s
  pub told : s.reactor.due ≡ []
  pub drained : IsDrained s.reactor

-- a closed round: the reactor's turn is over
abbrev pub after_poll : ContextState → ContextState
after_poll s = counted (record s { closings = one_more s.closings; restarted = false; turn = None })

-- the context is stopped, and no lane may begin anything
abbrev pub after_closing : ContextState → ContextState
after_closing s = record (after_poll s) {
  stopped = true;
  allowances = each_lane allowance.Nothing s.allowances;
}

-- io_context::restart, where the round has one
pub record MayRestart (script : ScriptModel) (s : State) : Type 0 where
  pub begun : HasRoundLeft script s.context
  pub wanted : restarts (this_round script s.context) ≡ true
  pub once : s.context.restarted ≡ false
  pub quiet : NothingRuns s.context
  pub working : s.reactor.failed ≡ false

abbrev pub after_restart : ContextState → ContextState
after_restart s =
    counted (record s
    { stopped = false; allowances = each_lane allowance.Free s.allowances; restarted = true })

-- a stop from outside
abbrev pub after_outside_stop : ContextState → ContextState
after_outside_stop s = record s { stopped = true }

abbrev pub AllClosed : ScriptModel → ContextState → Type 0
AllClosed script s = s.closings ≡ length script.rounds

-- no round is left to the context: all are closed, or the reactor failed and all handlers have
-- returned
abbrev pub IsOver : ScriptModel → State → Type 0
IsOver script s = AllClosed script s.context ⊎ ((s.reactor.failed ≡ true) × NothingRuns s.context)

-- the least operation whose handler wasn't spent
pub record IsNextDropped (s : ContextState) (o : ℕ) : Type 0 where
  pub left : is_unspent (phase_at s o) ≡ true
  pub least : (other : ℕ) → other < o → is_unspent (phase_at s other) ≡ false

-- in the end the handlers that never ran are destroyed, in rising number
pub record MayDrop (script : ScriptModel) (s : State) (o : ℕ) : Type 0 where
  pub over : IsOver script s
  pub next : IsNextDropped s.context o

abbrev pub after_drop : ContextState → ℕ → ContextState
after_drop s o = counted (record (with_phase s o phase.Dropped) { dropping = true })

-- What the calls of a book make of its history.
use Rattle.std.specs.Prelude.{◌≡◌, ◌≤◌, ◌⊎◌, ℕ, ⊤, Bool, true, false, All, List, [], ◌∷◌, ◌++◌, Option, Some, None, length, not, ◌&&◌, ◌||◌, ◌==◌, slice_get}
use Rattle.asio_types.specs.Faults.{Rose}
use Rattle.asio_types.specs.declared.code.Code.{Code}
use Rattle.asio_types.specs.declared.event.Event.{Event}
use Rattle.asio_types.specs.declared.event.Event.TheVariants as event
use Rattle.asio_types.specs.declared.outside.Point.{Point}
use Rattle.asio_types.specs.declared.outside.Point.TheVariants as point
use Rattle.op_handlers.specs.declared.call.Call.{Call}
use Rattle.session_script.specs.Script.{ScriptModel}
use Rattle.session_script.specs.declared.round.Round.{Round}
use Rattle.history_rules.specs.FromOutside.{has_fault}
use Rattle.history_rules.specs.Legal.{MayHappen}
use Rattle.history_rules.specs.Rounds.{AllQuiet, RoundIsOpen, outstanding_work, runs, this_round}
use Rattle.history_rules.specs.State.{State}
use Rattle.history_rules.specs.Time.{pending_count}
use Rattle.strand_core.specs.Execution.{IsWholeExecution, events_of}
use Rattle.strand_core.specs.declared.posted.Posted.{Posted}
use Rattle.execution_laws.specs.Shown.{IsRunMark}
use Rattle.book_context.specs.declared.answer.BookTurn.{BookTurn}
use Rattle.book_context.specs.declared.answer.BookTurn.TheVariants as turn
use Rattle.book_context.specs.Book.{BookView}
use Rattle.book_context.specs.Recorded.{recorded_state}
use Rattle.book_context.specs.Recording.{ArePlaced, Recording}

-- the round after those that are closed
abbrev pub open_round : Recording → Option Round
open_round r = slice_get r.script.rounds r.closings

-- a round is left, and its restart has come
abbrev pub is_open_with : Bool → Option Round → Bool
is_open_with restarted None = false
is_open_with restarted (Some round) = not round.restart || restarted

abbrev pub is_round_open : Recording → Bool
is_round_open r = is_open_with r.restarted (open_round r)

-- the round begins with a restart that hasn't come
abbrev pub wants_with : Bool → Option Round → Bool
wants_with restarted None = false
wants_with restarted (Some round) = round.restart && not restarted

abbrev pub wants_restart : Recording → Bool
wants_restart r = wants_with r.restarted (open_round r)

abbrev pub are_closed : Recording → Bool
are_closed r = r.closings == length r.script.rounds

-- a completion is told
abbrev pub IsDone : Event → Type 0
IsDone (event.Done op code size) = ⊤
IsDone _ = ⊥

-- a time point has passed
abbrev pub passed_event : Point → Event
passed_event (point.Time now) = event.Tick now
passed_event point.Last = event.Last

-- what begins a turn of the reactor
abbrev pub BeginsTurn : Event → Type 0
BeginsTurn (event.Take a) = ⊤
BeginsTurn (event.Tick now) = ⊤
BeginsTurn event.Last = ⊤
BeginsTurn _ = ⊥

-- a turn of the reactor, with the completions that it told
pub record IsTurnOf (events : List Event) : Type 0 where
  pub first : Event
  pub told : List Event
  pub is : events ≡ first ∷ told
  pub begins : BeginsTurn first
  pub completes : All IsDone told

-- the oldest ready operation was executed as a whole, with the marks that are named, and each begin got
-- its position; so many events were before
pub record IsExecutionOf (script : ScriptModel) (run : ℕ → Call → ℕ) (first : ℕ)
    (ready : List (ℕ × Code × ℕ))
    (events : List Event) : Type 0 where
  pub op : ℕ
  pub code : Code
  pub size : ℕ
  pub newer : List (ℕ × Code × ℕ)
  pub oldest : ready ≡ (op, code, size) ∷ newer
  pub calls : List Posted
  pub whole : IsWholeExecution script (IsRunMark run) op code size calls
  pub placed : ArePlaced script first calls
  pub is : events ≡ events_of script calls

-- one whole execution or one whole turn of the reactor came behind the history
pub record HasGoneOn (script : ScriptModel) (run : ℕ → Call → ℕ) (old new : Recording) : Type 0 where
  pub events : List Event
  pub is : new.events ≡ old.events ++ events
  pub step : IsExecutionOf script run (length old.events) old.ready events ⊎ IsTurnOf events

-- so much of a turn as there was before the reactor failed, and the fault
pub record HasFaulted (old new : Recording) : Type 0 where
  pub begun : List Event
  pub short : length begun ≤ 1
  pub turn : All BeginsTurn begun
  pub is : new.events ≡ old.events ++ (begun ++ event.Fault ∷ [])

-- a round is open that isn't stopped
pub record IsGoing (script : ScriptModel) (s : State) : Type 0 where
  pub round : RoundIsOpen script s.context
  pub going : s.context.stopped ≡ false

-- and nothing is to be done in it but to wait for others
pub record IsIdleRound (script : ScriptModel) (s : State) : Type 0 where
  pub quiet : AllQuiet s
  pub work : 1 ≤ outstanding_work s
  pub no_tick : runs (this_round script s.context) ≡ true → pending_count s.reactor ≡ 0

-- what a turn did, by what it answered
abbrev pub TurnAnswers : {X : Type 0} → (X → ℕ) → ScriptModel → Bool → (ℕ → Call → ℕ) → BookTurn →
    BookView X → BookView X → Type 0
TurnAnswers faults script told run turn.Did old new =
    IsGoing script (recorded_state told old.recording)
    × HasGoneOn script run old.recording new.recording × (faults new.reactor ≡ faults old.reactor)
TurnAnswers faults script told run turn.Fault old new =
    IsGoing script (recorded_state told old.recording) × HasFaulted old.recording new.recording
    × Rose (faults old.reactor) (faults new.reactor)
TurnAnswers faults script told run turn.Stopped old new =
    (new ≡ old) × ((recorded_state told old.recording).context.stopped ≡ true)
TurnAnswers faults script told run turn.Ended old new =
    (new ≡ old) × IsGoing script (recorded_state told old.recording)
    × (outstanding_work (recorded_state told old.recording) ≡ 0)
TurnAnswers faults script told run turn.Idle old new =
    (new ≡ old) × ((recorded_state told old.recording).context.stopped ≡ false)
    × (IsGoing script (recorded_state told old.recording) →
    IsIdleRound script (recorded_state told old.recording))

-- all rounds are closed, or the reactor has failed
abbrev pub IsBookOver : ScriptModel → Recording → Type 0
IsBookOver script r = (r.closings ≡ length script.rounds) ⊎ (has_fault r.events ≡ true)

-- one of the closing events
abbrev pub IsClosing : Event → Type 0
IsClosing event.Ended = ⊤
IsClosing event.Stopped = ⊤
IsClosing event.Polled = ⊤
IsClosing _ = ⊥

-- the round was closed by an event that might come
pub record HasClosed (script : ScriptModel) (told : Bool) (old new : Recording) : Type 0 where
  pub closing : Event
  pub is_closing : IsClosing closing
  pub legal : MayHappen script told (recorded_state told old) closing
  pub is : new.events ≡ old.events ++ closing ∷ []

-- no closing event may come
abbrev pub CannotClose : ScriptModel → Bool → Recording → Type 0
CannotClose script told r =
    (closing : Event) → IsClosing closing → MayHappen script told (recorded_state told r) closing →
    ⊥

-- A turn of the reactor as a context records it.
use Rattle.std.specs.Prelude.{◌≡◌, ℕ, Bool, true, false, All, IsSome, List, [], ◌∷◌, ◌++◌, Option}
use Rattle.asio_types.specs.Faults.{Rose}
use Rattle.asio_types.specs.declared.event.Event.{Event}
use Rattle.asio_types.specs.declared.event.Event.TheVariants as event
use Rattle.asio_types.specs.declared.outside.Point.{Point}
use Rattle.op_handlers.specs.declared.call.Call.{Call}
use Rattle.op_handlers.specs.Marks.{Marks}
use Rattle.session_script.specs.Script.{ScriptModel}
use Rattle.history_rules.specs.FromOutside.{has_fault}
use Rattle.history_rules.specs.Rounds.{outstanding_work}
use Rattle.history_rules.specs.State.{ReactorHalf}
use Rattle.reactor_trait.specs.Reactor.{Outside, ReactorState}
use Rattle.proactor_core.specs.Proactor.{ProactorView}
use Rattle.reactor_turns.specs.Turned.{moved_half}
use Rattle.strand_core.specs.Hands.{Held}
use Rattle.book_context.specs.declared.answer.BookTurn.{BookTurn}
use Rattle.book_context.specs.declared.answer.BookTurn.TheVariants as turn
use Rattle.reactor_turns.specs.Turned.{ReactorKeepsTime, IsTelling}
use Rattle.book_context.specs.Book.{HoldsUnspent, KeepsHistory, KeepsReactor}
use Rattle.book_context.specs.BookSteps.{BeginsTurn, HasFaulted, HasGoneOn, IsDone, IsIdleRound, IsTurnOf}
use Rattle.book_context.specs.Recorded.{is_spent_at, recorded_half, recorded_state}
use Rattle.book_context.specs.Recording.{Recording}
use Rattle.book_context.specs.Steps.{IsRoundOpen}

-- a turn is under way: of what completes in it something may be left to tell
pub record IsInTurn {X : Type 0} (state : X → ReactorState) (told : X → Option Outside)
    (tells_bytes : Bool) (r : Recording) (view : ProactorView X) : Type 0 where
  pub script : view.script ≡ r.script
  pub in_step : ReactorKeepsTime tells_bytes (recorded_half tells_bytes r) (state view.reactor)
      (told view.reactor)
  pub telling : IsTelling state told (recorded_half tells_bytes r) view
  pub turn : IsSome (recorded_state tells_bytes r).context.turn

-- completions were told, and nothing else happened
pub record HasOnlyTold (told : Bool) (old new : Recording) : Type 0 where
  pub events : List Event
  pub is : new.events ≡ old.events ++ events
  pub completes : All IsDone events
  pub script : new.script ≡ old.script
  pub stopped : new.stopped ≡ old.stopped
  pub spent : (n : ℕ) → is_spent_at told new n ≡ is_spent_at told old n
  pub faults : has_fault new.events ≡ has_fault old.events

-- a turn of the reactor began by an event, which leaves this of the reactor's half
pub record HasBegun (told : Bool) (old new : Recording) (half : ReactorHalf) : Type 0 where
  pub event : Event
  pub begins : BeginsTurn event
  pub is : new.events ≡ old.events ++ event ∷ []
  pub script : new.script ≡ old.script
  pub stopped : new.stopped ≡ old.stopped
  pub round : IsRoundOpen new
  pub is_half : recorded_half told new ≡ half
  pub turn : IsSome (recorded_state told new).context.turn
  pub whole : (recorded_half told new).whole_turn ≡ true
  pub works : (recorded_half told new).failed ≡ false
  pub spent : (n : ℕ) → is_spent_at told new n ≡ is_spent_at told old n
  pub faults : has_fault new.events ≡ has_fault old.events

-- the reactor has failed, before any of its turn was told
pub record HasBroken (told : Bool) (old new : Recording) : Type 0 where
  pub is : new.events ≡ old.events ++ event.Fault ∷ []
  pub script : new.script ≡ old.script
  pub stopped : new.stopped ≡ true
  pub failed : (recorded_half told new).failed ≡ true
  pub now : (recorded_half told new).now ≡ (recorded_half told old).now
  pub spent : (n : ℕ) → is_spent_at told new n ≡ is_spent_at told old n

-- the reactor has failed at a time point or before it
pub record HasBrokenOff (told : Bool) (old new : Recording) (moved : Option Point) : Type 0 where
  pub broke : HasFaulted old new
  pub script : new.script ≡ old.script
  pub stopped : new.stopped ≡ true
  pub failed : (recorded_half told new).failed ≡ true
  pub faulted : has_fault new.events ≡ true
  pub now : (recorded_half told new).now
      ≡ (moved_half old.script told moved (recorded_half told old)).now
  pub spent : (n : ℕ) → is_spent_at told new n ≡ is_spent_at told old n

-- one whole turn of the reactor came behind the history
pub record HasWholeTurn (old new : Recording) : Type 0 where
  pub events : List Event
  pub is : new.events ≡ old.events ++ events
  pub turn : IsTurnOf events

-- what a turn of the reactor was, by what it answered and by the count of faults before and after
abbrev pub TurnsReactor : BookTurn → Recording → Recording → ℕ → ℕ → Type 0
TurnsReactor turn.Did old new before after = HasWholeTurn old new × (after ≡ before)
TurnsReactor turn.Fault old new before after = HasFaulted old new × Rose before after
TurnsReactor _ old new before after = ⊥

-- and where there may be none
abbrev pub WaitsForOutside : {X : Type 0} → (X → ℕ) → Bool → BookTurn → Recording → Recording →
    ProactorView X → ProactorView X → Type 0
WaitsForOutside faults told turn.Ended old new view left =
    (new ≡ old) × (left ≡ view) × (outstanding_work (recorded_state told old) ≡ 0)
WaitsForOutside faults told turn.Idle old new view left =
    (new ≡ old) × (left ≡ view) × IsIdleRound old.script (recorded_state told old)
WaitsForOutside faults told answer old new view left =
    TurnsReactor answer old new (faults view.reactor) (faults left.reactor)

-- the oldest ready operation was executed
pub record HasExecutedNext {H : Type 0} (marks : H → Marks) (script : ScriptModel) (told : Bool)
    (run : ℕ → Call → ℕ) (drop : ℕ → ℕ) (outside : Bool) (old new : Recording) (hands : Held H) : Type 0 where
  pub history : KeepsHistory script told run drop outside new
  pub holds : HoldsUnspent marks told run drop new hands
  pub same_script : new.script ≡ old.script
  pub half : recorded_half told new ≡ recorded_half told old
  pub faults : has_fault new.events ≡ has_fault old.events
  pub gone : HasGoneOn script run old new

-- the reactor took the oldest request
pub record HasTakenNext {X : Type 0} (state : X → ReactorState) (told : X → Option Outside)
    (faults : X → ℕ) (script : ScriptModel) (tells_bytes : Bool) (run : ℕ → Call → ℕ) (drop : ℕ → ℕ) (named : ℕ)
    (outside : Bool) (answer : BookTurn) (old new : Recording) (view left : ProactorView X)
    : Type 0 where
  pub history : KeepsHistory script tells_bytes run drop outside new
  pub reactor : KeepsReactor state told faults tells_bytes named new left
  pub same_script : new.script ≡ old.script
  pub spent : (n : ℕ) → is_spent_at tells_bytes new n ≡ is_spent_at tells_bytes old n
  pub turned : TurnsReactor answer old new (faults view.reactor) (faults left.reactor)

-- the same handlers are spent
abbrev pub SpendsNone : Bool → Recording → Recording → Type 0
SpendsNone told old new = (n : ℕ) → is_spent_at told new n ≡ is_spent_at told old n

-- the reactor has failed in both or in none
abbrev pub KeepsFaults : Recording → Recording → Type 0
KeepsFaults old new = has_fault new.events ≡ has_fault old.events

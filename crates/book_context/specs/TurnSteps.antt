-- The turns of the reactor that a context records.
use Rattle.std.specs.Prelude.{◌≡◌, ◌<◌, ◌≤◌, ◌⊎◌, ℕ, Bool, true, false, List, [], ◌∷◌, IsSome, length, slice_get}
use Rattle.asio_types.specs.declared.code.Code.{Code}
use Rattle.asio_types.specs.declared.event.Event.{Event}
use Rattle.asio_types.specs.declared.event.Event.TheVariants as event
use Rattle.asio_types.specs.declared.outside.Point.TheVariants as point
use Rattle.history_rules.specs.declared.phase.ActPhase.TheVariants as phase
use Rattle.history_rules.specs.Order.{was_taken}
use Rattle.history_rules.specs.Requests.{MayTell}
use Rattle.history_rules.specs.Rounds.{IsDrained, runs}
use Rattle.history_rules.specs.State.{phase_at}
use Rattle.history_rules.specs.Time.{next_time, pending_count}
use Rattle.book_context.specs.Recorded.{IsRecorded, recorded_half, recorded_state}
use Rattle.book_context.specs.Recording.{Recording, with_done, with_event, with_fault}
use Rattle.book_context.specs.Steps.{EventIsRecorded, IsRoundOpen}

-- the reactor may turn: it works, and has nothing left to tell
pub record CanTurnNow (told : Bool) (r : Recording) : Type 0 where
  pub round : IsRoundOpen r
  pub going : r.stopped ≡ false
  pub working : (recorded_half told r).failed ≡ false
  pub nothing_due : (recorded_half told r).due ≡ []
  pub drained : IsDrained (recorded_half told r)

-- a turn began with this event
pub record TurnIsBegun (told : Bool) (r : Recording) (event : Event) (t : Recording) : Type 0 where
  pub goes : EventIsRecorded told r event t
  pub turn : IsSome (recorded_state told t).context.turn
  pub whole : (recorded_half told t).whole_turn ≡ true
  pub working : (recorded_half told t).failed ≡ false

abbrev pub taken_recording : Recording → ℕ → List ℕ → Recording
taken_recording r a newer = with_event (event.Take a) (record r { requests = newer })

-- the oldest request is taken
pub record HasTaken (told : Bool) (r : Recording) (a : ℕ) (newer : List ℕ) : Type 0 where
  pub within : a < length r.script.acts
  pub untaken : was_taken (recorded_half told r) a ≡ false
  pub turned : TurnIsBegun told r (event.Take a) (taken_recording r a newer)

abbrev pub TakesAreRecorded : Type 0
TakesAreRecorded =
    (told : Bool) (r : Recording) (a : ℕ) (newer : List ℕ) →
    IsRecorded told r → CanTurnNow told r → r.requests ≡ a ∷ newer → HasTaken told r a newer

-- what may be told is pending, and then ready behind the others
pub record CompletionIsRecorded (told : Bool) (r : Recording) (op : ℕ) (code : Code) (size : ℕ)
    : Type 0 where
  pub requested : phase_at (recorded_state told r).context op ≡ phase.Requested
  pub taken : was_taken (recorded_half told r) op ≡ true
  pub place : length r.ready < length r.script.acts
  pub goes : EventIsRecorded told r (event.Done op code size) (with_done op code size r)
  pub turn : IsSome (recorded_state told (with_done op code size r)).context.turn
  pub working : (recorded_half told (with_done op code size r)).failed ≡ false

abbrev pub CompletionsAreRecorded : Type 0
CompletionsAreRecorded =
    (told : Bool) (r : Recording) (op : ℕ) (code : Code) (size : ℕ) →
    IsRecorded told r → (recorded_half told r).failed ≡ false →
    IsSome (recorded_state told r).context.turn →
    MayTell r.script told (recorded_half told r) op code size →
    CompletionIsRecorded told r op code size

-- nothing is left to do but to wait for the outside
pub record IsWaiting (told : Bool) (r : Recording) : Type 0 where
  pub turn : CanTurnNow told r
  pub runs : runs (slice_get r.script.rounds r.closings) ≡ true
  pub none_ready : r.ready ≡ []
  pub none_asked : r.requests ≡ []
  pub pending : 1 ≤ pending_count (recorded_half told r)

abbrev pub TicksAreRecorded : Type 0
TicksAreRecorded =
    (told : Bool) (r : Recording) (now : ℕ) →
    IsRecorded told r → IsWaiting told r →
    next_time r.script (recorded_half told r) ≡ point.Time now →
    TurnIsBegun told r (event.Tick now) (with_event (event.Tick now) r)

abbrev pub LastIsRecorded : Type 0
LastIsRecorded =
    (told : Bool) (r : Recording) →
    IsRecorded told r → IsWaiting told r → next_time r.script (recorded_half told r) ≡ point.Last →
    TurnIsBegun told r event.Last (with_event event.Last r)

-- the reactor has failed
pub record HasFailed (told : Bool) (r : Recording) : Type 0 where
  pub goes : EventIsRecorded told r event.Fault (with_fault r)
  pub failed : (recorded_half told (with_fault r)).failed ≡ true

-- before any of a turn was told, or between two turns
abbrev pub FaultsAreRecorded : Type 0
FaultsAreRecorded =
    (told : Bool) (r : Recording) →
    IsRecorded told r → IsRoundOpen r → (recorded_half told r).failed ≡ false →
    ((recorded_half told r).whole_turn ≡ true) ⊎ ((recorded_half told r).due ≡ []) →
    HasFailed told r

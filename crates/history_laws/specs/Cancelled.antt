-- Cancellation (Asio reference, steady_timer::cancel, ::cancel_one, ::expires_after and
-- ::expires_at; cancellation_signal::emit; basic_stream_socket::close).
use Rattle.std.specs.Prelude.{◌≡◌, ◌<◌, ℕ, Bool, true, false, ◌==◌, ◌&&◌, List, Option, Some, None, take}
use Rattle.asio_types.specs.declared.code.Code.{Code}
use Rattle.asio_types.specs.declared.code.Code.TheVariants as code
use Rattle.asio_types.specs.declared.event.Event.{Event}
use Rattle.asio_types.specs.declared.event.Event.TheVariants as event
use Rattle.session_script.specs.declared.act.Act.{Act}
use Rattle.session_script.specs.declared.act.Act.TheVariants as act
use Rattle.session_script.specs.Script.{ScriptModel, act_of}
use Rattle.history_rules.specs.Kinds.{slot_of, stream_of}
use Rattle.history_rules.specs.Performing.{is_reached}
use Rattle.history_rules.specs.Requests.{slot_in}
use Rattle.history_laws.specs.Clock.{IsWaitOf}
use Rattle.history_laws.specs.Events.{StandsAt, completions_of, takes_of}

-- the number that may be there is this one
abbrev pub is_this : ℕ → Option ℕ → Bool
is_this n None = false
is_this n (Some other) = other == n

abbrev pub is_wait_of : ℕ → Act → Bool
is_wait_of timer (act.Wait other strand slot filter) = other == timer
is_wait_of timer _ = false

-- the first act may cancel the second: the timer of a wait is cancelled or gets another expiry, the
-- stream of an operation is closed, or its slot emits a type that it supports and lets through
abbrev pub may_cancel : Act → Act → Bool
may_cancel (act.Expires timer after) target = is_wait_of timer target
may_cancel (act.ExpiresAt timer at) target = is_wait_of timer target
may_cancel (act.Cancel timer) target = is_wait_of timer target
may_cancel (act.CancelOne timer) target = is_wait_of timer target
may_cancel (act.Emit slot types) target = is_this slot (slot_of target) && is_reached target types
may_cancel (act.Close stream) target = is_this stream (stream_of target)
may_cancel _ target = false

-- an act that was taken before this place, behind the operation, may cancel it
pub record WasCancelled (script : ScriptModel) (events : List Event) (place n : ℕ) : Type 0 where
  pub canceller : ℕ
  pub by : Act
  pub target : Act
  pub is_canceller : act_of script canceller ≡ Some by
  pub is_target : act_of script n ≡ Some target
  pub may : may_cancel by target ≡ true
  pub taken : ℕ
  pub cancelled : ℕ
  pub order : taken < cancelled
  pub before : cancelled < place
  pub takes : StandsAt events taken (event.Take n)
  pub cancels : StandsAt events cancelled (event.Take canceller)

-- at this place the reactor has it: it was taken, and hasn't completed
pub record IsPendingAt (events : List Event) (place n : ℕ) : Type 0 where
  pub taken : takes_of n (take place events) ≡ 1
  pub uncompleted : completions_of n (take place events) ≡ 0

-- no other wait of this timer is pending that was taken before it
abbrev pub IsOldestWait : ScriptModel → List Event → ℕ → ℕ → ℕ → Type 0
IsOldestWait script events place timer n =
    (other earlier later : ℕ) → IsWaitOf script timer other →
    StandsAt events earlier (event.Take other) → StandsAt events later (event.Take n) →
    earlier < later → IsPendingAt events place other → ⊥

-- no other operation was connected to this slot behind it, before this place
abbrev pub IsConnected : ScriptModel → List Event → ℕ → ℕ → ℕ → Type 0
IsConnected script events place slot n =
    (other earlier later : ℕ) → StandsAt events earlier (event.Take n) →
    StandsAt events later (event.Take other) → earlier < later → later < place →
    slot_in (act_of script other) ≡ Some slot → ⊥

-- what an act that may cancel the operation asks besides, where it is taken at this place
abbrev pub Reaches : ScriptModel → List Event → ℕ → ℕ → Act → Type 0
Reaches script events place n (act.CancelOne timer) = IsOldestWait script events place timer n
Reaches script events place n (act.Emit slot types) = IsConnected script events place slot n
Reaches script events place n _ = Unit {0}

-- An operation completes as aborted only where something that may cancel it was taken behind it; and
-- an operation that is pending where an act is taken that reaches it begins as aborted, if at all.
pub record CancellationIsHeeded (script : ScriptModel) (events : List Event) : Type 0 where
  pub aborted : (n place size : ℕ) → StandsAt events place (event.Done n code.Aborted size) →
      WasCancelled script events place n
  pub heeded : (n canceller place later : ℕ) (by target : Act) (given : Code) (size : ℕ) →
      act_of script canceller ≡ Some by → act_of script n ≡ Some target →
      may_cancel by target ≡ true → Reaches script events place n by →
      StandsAt events place (event.Take canceller) → IsPendingAt events place n →
      StandsAt events later (event.Begin n given size) → given ≡ code.Aborted

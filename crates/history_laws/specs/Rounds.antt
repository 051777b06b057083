-- Rounds close once, and nothing comes behind the last (Asio reference, io_context::run, ::poll and
-- ::~io_context).
use Rattle.std.specs.Prelude.{◌≡◌, ℕ, Bool, true, false, List, Some, Contains, length, count_by, slice_get, take}
use Rattle.asio_types.specs.declared.event.Event.{Event}
use Rattle.asio_types.specs.declared.event.Event.TheVariants as event
use Rattle.session_script.specs.Script.{ScriptModel}
use Rattle.session_script.specs.declared.round.Pace.TheVariants as pace
use Rattle.session_script.specs.declared.round.Round.{Round}
use Rattle.history_laws.specs.AfterStop.{is_round_end}
use Rattle.history_laws.specs.Events.{StandsAt}

-- a handler is destroyed
abbrev pub is_drop : Event → Bool
is_drop (event.Dropped op mark) = true
is_drop _ = false

-- how many rounds have closed before a place
abbrev pub closed_before : List Event → ℕ → ℕ
closed_before events place = count_by is_round_end (take place events)

-- Unless the reactor fails each round of the script closes, and none closes twice. Behind the last
-- handlers are destroyed, and nothing else happens. Only a round of io_context::poll closes because
-- nothing is ready.
pub record RoundsCloseOnce (script : ScriptModel) (events : List Event) : Type 0 where
  pub each : (Contains events event.Fault → ⊥) →
      count_by is_round_end events ≡ length script.rounds
  pub last : (place : ℕ) (shown : Event) → StandsAt events place shown →
      closed_before events place ≡ length script.rounds → is_drop shown ≡ true
  pub polled : (place : ℕ) (round : Round) → StandsAt events place event.Polled →
      slice_get script.rounds (closed_before events place) ≡ Some round → round.pace ≡ pace.Poll

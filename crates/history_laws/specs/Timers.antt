-- Timers (Asio reference, steady_timer::async_wait and ::expiry; scripted time is this project's own).
use Rattle.std.specs.Prelude.{◌≡◌, ◌<◌, ◌≤◌, ℕ, List, take}
use Rattle.asio_types.specs.declared.code.Code.TheVariants as code
use Rattle.asio_types.specs.declared.event.Event.{Event}
use Rattle.asio_types.specs.declared.event.Event.TheVariants as event
use Rattle.session_script.specs.Script.{ScriptModel}
use Rattle.history_laws.specs.Clock.{IsWaitOf, expiry_at, time_at}
use Rattle.history_laws.specs.Events.{StandsAt, begins_of, calls_of, completions_of, ends_of, returns_of, takes_of}

-- every call is back, and every handler that is ready has run
pub record IsAtRest (events : List Event) (place : ℕ) : Type 0 where
  pub back : (n : ℕ) → returns_of n (take place events) ≡ calls_of n (take place events)
  pub ended : (n : ℕ) → ends_of n (take place events) ≡ begins_of n (take place events)
  pub begun : (n : ℕ) → completions_of n (take place events) ≤ begins_of n (take place events)

-- A wait doesn't complete without an error before its timer's expiry. Of two waits that are pending
-- together and complete without one, the first to complete has no later expiry. Time rises, and moves
-- only where all is at rest.
pub record TimersKeepTime (script : ScriptModel) (events : List Event) : Type 0 where
  pub expired : (n timer place size : ℕ) → IsWaitOf script timer n →
      StandsAt events place (event.Done n code.Ok size) →
      expiry_at script events timer place ≤ time_at events place
  pub ordered : (first second timer other place later size more : ℕ) →
      IsWaitOf script timer first → IsWaitOf script other second →
      StandsAt events place (event.Done first code.Ok size) →
      StandsAt events later (event.Done second code.Ok more) → place < later →
      takes_of second (take place events) ≡ 1 →
      expiry_at script events timer place ≤ expiry_at script events other later
  pub rising : (place now : ℕ) → StandsAt events place (event.Tick now) →
      time_at events place < now
  pub rest : (place now : ℕ) → StandsAt events place (event.Tick now) → IsAtRest events place

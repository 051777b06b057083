-- What the events of a history show, and what has become of each act.
use Rattle.std.proofs.Common.{◌≡◌, ◌≢◌, ℕ, ◌≤◌, true, List}
use Rattle.asio_types.specs.declared.code.Code.{Code}
use Rattle.asio_types.specs.declared.event.Event.{Event}
use Rattle.asio_types.specs.declared.event.Event.TheVariants as event
use Rattle.session_script.specs.Script.{ScriptModel}
use Rattle.history_rules.specs.Order.{was_taken}
use Rattle.history_rules.specs.State.{State, call_at, phase_at}
use Rattle.history_rules.specs.declared.phase.ActPhase.TheVariants as phase
use Rattle.history_rules.specs.declared.phase.CallPhase.TheVariants as call
use Rattle.history_rules.specs.declared.phase.Cause.TheVariants as cause
use Rattle.history_laws.specs.Events.{StandsAt, begins_of, calls_of, completions_of, drops_of, ends_of, returns_of, takes_of}
use Rattle.history_laws.proofs.CountLemmas.{one_if}
use Rattle.history_laws.proofs.ShownLemmas.{begins_shown, calls_shown, completions_shown, drops_shown, ends_shown, returns_shown}
use Rattle.history_laws.proofs.Sound.{IsSound}

-- the event stands somewhere
abbrev pub StandsIn : List Event → Event → Type 0
StandsIn events shown = (place : ℕ) × StandsAt events place shown

pub record IsShown (script : ScriptModel) (before : List Event) (s : State) : Type 0 where
  pub sound : IsSound script s
  pub calls : (n : ℕ) → calls_of n before ≡ calls_shown (call_at s.context n)
  pub returns : (n : ℕ) → returns_of n before ≡ returns_shown (call_at s.context n)
  pub begins : (n : ℕ) → begins_of n before ≡ begins_shown (phase_at s.context n)
  pub ends : (n : ℕ) → ends_of n before ≡ ends_shown (phase_at s.context n)
  pub drops : (n : ℕ) → drops_of n before ≡ drops_shown (phase_at s.context n)
  pub takes : (n : ℕ) → takes_of n before ≡ one_if (was_taken s.reactor n)
  pub completions : (n : ℕ) → completions_of n before ≤ completions_shown (phase_at s.context n)
  pub called : (n : ℕ) → call_at s.context n ≢ call.Uncalled → StandsIn before (event.Call n)
  pub taken : (n : ℕ) → was_taken s.reactor n ≡ true → StandsIn before (event.Take n)
  pub completed : (n : ℕ) (code : Code) (size done turn : ℕ) →
      phase_at s.context n ≡ phase.Ready code size (cause.Completed done turn) →
      StandsIn before (event.Done n code size)

-- A handler is called once, or destroyed once without a call (Asio reference, Overview,
-- "Asynchronous Operations": the completion handler is called once and only once;
-- io_context::~io_context: handlers that weren't called are destroyed).
use Rattle.std.specs.Prelude.{◌≡◌, ◌<◌, ◌≤◌, ◌⊎◌, ℕ, false, true, List}
use Rattle.asio_types.specs.declared.code.Code.{Code}
use Rattle.asio_types.specs.declared.event.Event.{Event}
use Rattle.asio_types.specs.declared.event.Event.TheVariants as event
use Rattle.session_script.specs.Script.{ScriptModel, is_op}
use Rattle.history_laws.specs.Events.{StandsAt, begins_of, calls_of, drops_of, ends_of}

-- its handler begins once and ends once, and isn't destroyed before
pub record RanOnce (events : List Event) (n : ℕ) : Type 0 where
  pub begun : begins_of n events ≡ 1
  pub ended : ends_of n events ≡ 1
  pub undestroyed : drops_of n events ≡ 0

-- its handler is destroyed once, and never ran
pub record WasDestroyedOnce (events : List Event) (n : ℕ) : Type 0 where
  pub destroyed : drops_of n events ≡ 1
  pub unbegun : begins_of n events ≡ 0
  pub unended : ends_of n events ≡ 0

-- nothing begins, ends or is destroyed by this number
pub record HasNoHandler (events : List Event) (n : ℕ) : Type 0 where
  pub unbegun : begins_of n events ≡ 0
  pub unended : ends_of n events ≡ 0
  pub undestroyed : drops_of n events ≡ 0

-- Each act is called at most once; the handler of each operation that was called runs once or is
-- destroyed once, and never both; nothing else has a handler that does.
pub record HandlersRunOnce (script : ScriptModel) (events : List Event) : Type 0 where
  pub called : (n : ℕ) → calls_of n events ≤ 1
  pub spent : (n : ℕ) → is_op script n ≡ true → calls_of n events ≡ 1 →
      RanOnce events n ⊎ WasDestroyedOnce events n
  pub others : (n : ℕ) → (is_op script n ≡ false) ⊎ (calls_of n events ≡ 0) →
      HasNoHandler events n
  pub order : (n began ended : ℕ) (code : Code) (size mark : ℕ) →
      StandsAt events began (event.Begin n code size) → StandsAt events ended (event.End n mark) →
      began < ended

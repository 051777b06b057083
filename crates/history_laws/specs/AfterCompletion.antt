-- A handler runs with what its operation gave, and never before (Asio reference, Overview, "The
-- Proactor Design Pattern": the completion handler processes the result of an asynchronous
-- operation; asio::post, asio::defer and asio::dispatch).
use Rattle.std.specs.Prelude.{◌≡◌, ◌<◌, ◌≤◌, ℕ, false, true, List}
use Rattle.asio_types.specs.declared.code.Code.{Code}
use Rattle.asio_types.specs.declared.code.Code.TheVariants as code
use Rattle.asio_types.specs.declared.event.Event.{Event}
use Rattle.asio_types.specs.declared.event.Event.TheVariants as event
use Rattle.session_script.specs.Script.{ScriptModel, is_op}
use Rattle.history_rules.specs.Kinds.{is_act, is_posting}
use Rattle.history_laws.specs.Events.{StandsAt, completions_of, takes_of}

-- a post, a defer or a dispatch
abbrev pub IsPosting : ScriptModel → ℕ → Type 0
IsPosting script n = is_act is_posting script n ≡ true

-- an operation that the reactor completes
pub record IsAsynchronous (script : ScriptModel) (n : ℕ) : Type 0 where
  pub operation : is_op script n ≡ true
  pub unposted : is_act is_posting script n ≡ false

-- an earlier place at which this event stands
pub record StandsBefore (events : List Event) (place : ℕ) (shown : Event) : Type 0 where
  pub earlier : ℕ
  pub before : earlier < place
  pub stands : StandsAt events earlier shown

-- An asynchronous operation completes at most once, and its handler begins behind that, with that
-- code and size; the handler of a posting begins behind its call, without an error; an operation
-- completes behind being taken, and is taken behind its call.
pub record HandlersFollowCompletion (script : ScriptModel) (events : List Event) : Type 0 where
  pub once : (n : ℕ) → completions_of n events ≤ 1
  pub taken_once : (n : ℕ) → takes_of n events ≤ 1
  pub completed : (n place : ℕ) (given : Code) (size : ℕ) → IsAsynchronous script n →
      StandsAt events place (event.Begin n given size) →
      StandsBefore events place (event.Done n given size)
  pub posted : (n place : ℕ) (given : Code) (size : ℕ) → IsPosting script n →
      StandsAt events place (event.Begin n given size) →
      StandsBefore events place (event.Call n) × (given ≡ code.Ok) × (size ≡ 0)
  pub taken : (n place : ℕ) (given : Code) (size : ℕ) →
      StandsAt events place (event.Done n given size) → StandsBefore events place (event.Take n)
  pub asked : (n place : ℕ) → StandsAt events place (event.Take n) →
      StandsBefore events place (event.Call n)

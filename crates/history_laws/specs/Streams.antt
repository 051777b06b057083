-- What the operations of a stream move (Asio reference, async_read_some, async_read,
-- async_read_until, async_write_some and async_write; what arrives when is scripted).
use Rattle.std.specs.Prelude.{◌≡◌, ◌≤◌, ℕ, ◌+◌, ◌==◌, Bool, true, false, List, [], ◌∷◌, Option, Some, filter, length, sum_by, take, if◌then◌else◌}
use Rattle.asio_types.specs.declared.code.Code.{Code}
use Rattle.asio_types.specs.declared.event.Event.{Event}
use Rattle.asio_types.specs.declared.event.Event.TheVariants as event
use Rattle.asio_types.specs.declared.world.Line.{Line}
use Rattle.asio_types.specs.declared.world.What.{What}
use Rattle.asio_types.specs.declared.world.What.TheVariants as what
use Rattle.session_script.specs.declared.act.Act.{Act}
use Rattle.session_script.specs.declared.act.Act.TheVariants as act
use Rattle.session_script.specs.Script.{ScriptModel, act_of}
use Rattle.stream_rules.specs.World.{lines_at}
use Rattle.history_laws.specs.Events.{StandsAt}

-- the act reads from this stream
abbrev pub is_read_of : ℕ → Option Act → Bool
is_read_of stream (Some (act.ReadSome other size strand slot filter)) = other == stream
is_read_of stream (Some (act.ReadAll other size strand slot filter)) = other == stream
is_read_of stream (Some (act.Until other delimiter max strand slot filter)) = other == stream
is_read_of stream _ = false

-- the act writes to this stream
abbrev pub is_write_of : ℕ → Option Act → Bool
is_write_of stream (Some (act.WriteSome other bytes strand slot filter)) = other == stream
is_write_of stream (Some (act.WriteAll other bytes strand slot filter)) = other == stream
is_write_of stream _ = false

-- how many bytes a line feeds, and for how many more it gives room
abbrev pub bytes_fed : What → ℕ
bytes_fed (what.Feed bytes) = length bytes
bytes_fed _ = 0

abbrev pub room_given : What → ℕ
room_given (what.Room room) = room
room_given _ = 0

-- what the lines of a stream give at a time, by an amount for each
abbrev pub given_at : (What → ℕ) → ScriptModel → ℕ → ℕ → ℕ
given_at amount script stream time =
    sum_by (λ (line : Line). if line.stream == stream then amount line.what else 0)
    (lines_at time script.world.lines)

-- what they give as these events move time
abbrev pub given_later : (What → ℕ) → ScriptModel → ℕ → List Event → ℕ
given_later amount script stream [] = 0
given_later amount script stream (event.Tick now ∷ events) =
    given_at amount script stream now + given_later amount script stream events
given_later amount script stream (_ ∷ events) = given_later amount script stream events

-- what they have given once these events have come: those of time 0 come first
abbrev pub given_by : (What → ℕ) → ScriptModel → ℕ → List Event → ℕ
given_by amount script stream events =
    given_at amount script stream 0 + given_later amount script stream events

-- how many bytes an event says that an operation which passes the test has moved
abbrev pub moved_by : (Option Act → Bool) → ScriptModel → Event → ℕ
moved_by test script (event.Done op code size) = if test (act_of script op) then size else 0
moved_by test script _ = 0

-- how many all operations that pass it have moved
abbrev pub moved_in : (Option Act → Bool) → ScriptModel → List Event → ℕ
moved_in test script events = sum_by (moved_by test script) events

-- Where bytes are told: the reads of a stream took no more bytes than it was fed by then, however
-- they were cut; and its writes moved no more than it had room for.
pub record StreamsKeepTheirBytes (script : ScriptModel) (events : List Event) : Type 0 where
  pub read : (stream n place : ℕ) (given : Code) (size : ℕ) →
      is_read_of stream (act_of script n) ≡ true → StandsAt events place (event.Done n given size) →
      moved_in (is_read_of stream) script (take place events) + size
      ≤ given_by bytes_fed script stream (take place events)
  pub written : (stream n place : ℕ) (given : Code) (size : ℕ) →
      is_write_of stream (act_of script n) ≡ true →
      StandsAt events place (event.Done n given size) →
      moved_in (is_write_of stream) script (take place events) + size
      ≤ given_by room_given script stream (take place events)

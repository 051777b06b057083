-- Which bytes a stream sends (Asio reference, async_write_some and async_write).
use Rattle.std.specs.Prelude.{◌≡◌, ℕ, true, List, [], ◌∷◌, ◌++◌, Option, Some, take, if◌then◌else◌}
use Rattle.asio_types.specs.declared.event.Event.{Event}
use Rattle.asio_types.specs.declared.event.Event.TheVariants as event
use Rattle.session_script.specs.declared.act.Act.{Act}
use Rattle.session_script.specs.declared.act.Act.TheVariants as act
use Rattle.session_script.specs.Script.{ScriptModel, act_of}
use Rattle.stream_rules.specs.World.{stream_at}
use Rattle.history_rules.specs.Legal.{state_of}
use Rattle.history_laws.specs.Streams.{is_write_of}

-- the bytes that an act has to write
abbrev pub bytes_in : Option Act → List ℕ
bytes_in (Some (act.WriteSome stream bytes strand slot filter)) = bytes
bytes_in (Some (act.WriteAll stream bytes strand slot filter)) = bytes
bytes_in _ = []

-- the first bytes of an act, if it writes to this stream
abbrev pub written_of : ScriptModel → ℕ → ℕ → ℕ → List ℕ
written_of script stream op size =
    if is_write_of stream (act_of script op) then take size (bytes_in (act_of script op)) else []

-- what these events say that the writes of a stream have moved, one behind the other
abbrev pub written_by : ScriptModel → ℕ → List Event → List ℕ
written_by script stream [] = []
written_by script stream (event.Done op code size ∷ events) =
    written_of script stream op size ++ written_by script stream events
written_by script stream (_ ∷ events) = written_by script stream events

-- the bytes that the peer of a stream has got
abbrev pub sent_on : ScriptModel → ℕ → List Event → List ℕ
sent_on script stream events = (stream_at (state_of script true events).reactor.streams stream).sent

-- Where bytes are told, what the writes of a stream have moved, one behind the other, is a first part
-- of what was sent on it, however it was cut.
abbrev pub WritesAreSentInOrder : ScriptModel → List Event → Type 0
WritesAreSentInOrder script events =
    (stream : ℕ) →
    (rest : List ℕ) × (sent_on script stream events ≡ written_by script stream events ++ rest)

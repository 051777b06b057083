-- How many operations of each stream a script has, and how many bytes its reads ask for, which is
-- the room that they can need.
use Rattle.std.specs.Prelude.{ℕ, ◌==◌, Bool, false, Option, Some, None, if◌then◌else◌}
use Rattle.session_script.specs.declared.act.Act.{Act}
use Rattle.session_script.specs.declared.act.Act.TheVariants as act
use Rattle.proactor_core.specs.declared.stream_rooms.StreamSide.{StreamSide}
use Rattle.proactor_core.specs.declared.stream_rooms.StreamSide.TheVariants as side

abbrev pub stream_read : Act → Option ℕ
stream_read (act.ReadSome stream size strand slot filter) = Some stream
stream_read (act.ReadAll stream size strand slot filter) = Some stream
stream_read (act.Until stream delimiter max strand slot filter) = Some stream
stream_read _ = None

abbrev pub stream_written : Act → Option ℕ
stream_written (act.WriteSome stream bytes strand slot filter) = Some stream
stream_written (act.WriteAll stream bytes strand slot filter) = Some stream
stream_written _ = None

-- the stream that an act reads, or writes
abbrev pub stream_on : StreamSide → Act → Option ℕ
stream_on side.Reads act = stream_read act
stream_on side.Writes act = stream_written act

abbrev pub is_stream : ℕ → Option ℕ → Bool
is_stream stream None = false
is_stream stream (Some other) = other == stream

-- whether an act reads this stream, or writes it
abbrev pub is_on_side : StreamSide → ℕ → Act → Bool
is_on_side side stream act = is_stream stream (stream_on side act)

-- the most bytes that an act reads of this stream
abbrev pub bytes_asked_at : ℕ → Act → ℕ
bytes_asked_at stream (act.ReadSome other size strand slot filter) =
    if other == stream then size else 0
bytes_asked_at stream (act.ReadAll other size strand slot filter) =
    if other == stream then size else 0
bytes_asked_at stream (act.Until other delimiter max strand slot filter) =
    if other == stream then max else 0
bytes_asked_at stream _ = 0

-- the same of a stream with a size, if there is one
abbrev pub size_in : ℕ → Option (ℕ × ℕ) → ℕ
size_in stream None = 0
size_in stream (Some (other, size)) = if other == stream then size else 0

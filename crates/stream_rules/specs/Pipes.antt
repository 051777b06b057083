-- The streams of a scripted reactor, and the memory that is reserved for what is still to come.
use Rattle.std.specs.Prelude.{ℕ, ◌≡◌, ◌+◌, ◌≤◌, ◌<◌, ◌==◌, List, [], ◌∷◌, Bool, IsTrue, IsSome, All, if◌then◌else◌, length}
use Rattle.std.specs.List.{slice_index_or}
use Rattle.asio_types.specs.declared.world.Line.{Line}
use Rattle.asio_types.specs.declared.world.What.{What}
use Rattle.asio_types.specs.declared.world.What.TheVariants as what
use Rattle.stream_rules.specs.Stream.{Stream}
use Rattle.stream_rules.specs.World.{lines_after}
use Rattle.stream_rules.specs.Timetable.{Timetable}
use Rattle.stream_rules.specs.declared.pipe.Pipe.{Pipe}

abbrev pub pipe_stream : Pipe → Stream
pipe_stream pipe =
    record {
      arrived = pipe.inbound.arrived;
      room = pipe.outbound.room;
      read_mark = pipe.inbound.mark;
      write_mark = pipe.outbound.mark;
      sent = pipe.outbound.sent;
    }

-- the bytes that a line brings
abbrev pub fed : What → ℕ
fed (what.Feed bytes) = length bytes
fed what.End = 0
fed what.Reset = 0
fed (what.Room count) = 0

-- the room that a line brings
abbrev pub roomed : What → ℕ
roomed (what.Feed bytes) = 0
roomed what.End = 0
roomed what.Reset = 0
roomed (what.Room count) = count

-- the bytes that lines bring to a stream
abbrev pub fed_to : ℕ → List Line → ℕ
fed_to stream [] = 0
fed_to stream (line ∷ lines) =
    (if line.stream == stream then fed line.what else 0) + fed_to stream lines

-- the room that lines bring to a stream
abbrev pub room_to : ℕ → List Line → ℕ
room_to stream [] = 0
room_to stream (line ∷ lines) =
    (if line.stream == stream then roomed line.what else 0) + room_to stream lines

-- each stream has memory for what these lines bring
pub record HasRoom (lines : List Line) (pipes : List Pipe) : Type 0 where
  pub bytes : (stream : ℕ) (pipe : Pipe) → stream < length pipes →
      fed_to stream lines ≤ (slice_index_or pipes stream pipe).inbound.left
  pub room : (stream : ℕ) (pipe : Pipe) → stream < length pipes →
      room_to stream lines ≤ (slice_index_or pipes stream pipe).outbound.left

-- what these lines brought came out of the memory that was reserved
pub record UsesRoom (lines : List Line) (old new : List Pipe) : Type 0 where
  pub bytes : (stream : ℕ) (pipe : Pipe) → stream < length old →
      (slice_index_or new stream pipe).inbound.left + fed_to stream lines
      ≡ (slice_index_or old stream pipe).inbound.left
  pub room : (stream : ℕ) (pipe : Pipe) → stream < length old →
      (slice_index_or new stream pipe).outbound.left + room_to stream lines
      ≡ (slice_index_or old stream pipe).outbound.left

-- the memory that is reserved for what is to come stayed
pub record KeepsRoom (old new : List Pipe) : Type 0 where
  pub bytes : (stream : ℕ) (pipe : Pipe) → stream < length old →
      (slice_index_or new stream pipe).inbound.left ≡ (slice_index_or old stream pipe).inbound.left
  pub room : (stream : ℕ) (pipe : Pipe) → stream < length old →
      (slice_index_or new stream pipe).outbound.left
      ≡ (slice_index_or old stream pipe).outbound.left

abbrev pub IsMarked : Pipe → Type 0
IsMarked pipe = IsSome pipe.inbound.mark × IsSome pipe.outbound.mark

-- the streams are those of the world that is played, with memory for what is to come; after the
-- last point each side has its mark
pub record IsPlaying (last : Bool) (closed : List Bool) (table : Timetable) (pipes : List Pipe)
    : Type 0 where
  pub counted : length closed ≡ length pipes
  pub within : All (λ line. line.stream < length pipes) table.lines
  pub room : HasRoom (lines_after table.time table.lines) pipes
  pub marked : IsTrue last → All IsMarked pipes

-- What happens to the streams of a world as scripted time moves.
use Rattle.std.specs.Prelude.{ℕ, ◌==◌, ◌<◌, nat_lt, min, Option, None, Some, List, [], ◌∷◌, if◌then◌else◌, All, filter, fold, map, replicate}
use Rattle.std.specs.List.{slice_get, slice_index_or, slice_set}
use Rattle.asio_types.specs.declared.outside.Point.{Point}
use Rattle.asio_types.specs.declared.outside.Point.TheVariants as point
use Rattle.asio_types.specs.declared.world.Line.{Line}
use Rattle.asio_types.specs.declared.world.World.{World}
use Rattle.stream_rules.specs.Stream.{Stream, new_stream, line_performed, marked_last}

-- the stream with this number
abbrev pub stream_at : List Stream → ℕ → Stream
stream_at streams number = slice_index_or streams number new_stream

-- the streams after this change of one of them
abbrev pub changed_at : ℕ → (Stream → Stream) → List Stream → List Stream
changed_at number change streams = slice_set streams number (change (stream_at streams number))

abbrev pub perform_line : List Stream → Line → List Stream
perform_line streams line = changed_at line.stream (line_performed line.what) streams

-- the lines, in their order
abbrev pub perform_lines : List Line → List Stream → List Stream
perform_lines lines streams = fold perform_line streams lines

-- the lines of this time, in text order
abbrev pub lines_at : ℕ → List Line → List Line
lines_at time lines = filter (λ line. line.time == time) lines

-- the lines that are still to come at this time, in text order
abbrev pub lines_after : ℕ → List Line → List Line
lines_after now lines = filter (λ line. nat_lt now line.time) lines

-- a time put into a rising list, once
abbrev pub insert_time : ℕ → List ℕ → List ℕ
insert_time time [] = time ∷ []
insert_time time (first ∷ later) =
    if nat_lt time first then time ∷ (first ∷ later)
    else (if time == first then first ∷ later else first ∷ insert_time time later)

-- the distinct numbers of a list, rising
abbrev pub rising : List ℕ → List ℕ
rising [] = []
rising (time ∷ times) = insert_time time (rising times)

-- the distinct times above now, rising
abbrev pub rising_after : ℕ → List ℕ → List ℕ
rising_after now times = rising (filter (λ time. nat_lt now time) times)

-- the distinct times of lines that are still to come, rising
abbrev pub times_after : ℕ → List Line → List ℕ
times_after now lines = rising_after now (map (λ line. line.time) lines)

-- the earlier of a limit and of a time, or that there is neither
abbrev pub earlier_point : Option ℕ → Option ℕ → Point
earlier_point None None = point.Last
earlier_point None (Some time) = point.Time time
earlier_point (Some limit) None = point.Time limit
earlier_point (Some limit) (Some time) = point.Time (min limit time)

-- the least of a limit and of rising times, or that there is neither
abbrev pub next_point : Option ℕ → List ℕ → Point
next_point limit times = earlier_point limit (slice_get times 0)

-- each line names a stream of its world
abbrev pub HasItsStreams : World → Type 0
HasItsStreams world = All (λ line. line.stream < world.streams) world.lines

-- the streams before the first event: new, with the lines of time 0 performed
abbrev pub first_streams : World → List Stream
first_streams world = perform_lines (lines_at 0 world.lines) (replicate world.streams new_stream)

-- the streams once no further time point exists
abbrev pub streams_at_last : List Stream → List Stream
streams_at_last streams = map marked_last streams

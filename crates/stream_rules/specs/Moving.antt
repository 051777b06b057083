-- What a call of a reactor that reads or writes some bytes answers: how an operation on some bytes
-- completes at once.
use Rattle.std.specs.Prelude.{ℕ, List, Option, Some, None}
use Rattle.asio_types.specs.declared.code.Code.TheVariants as code
use Rattle.asio_types.specs.declared.outside.Moved.{Moved}
use Rattle.asio_types.specs.declared.outside.Moved.TheVariants as moved
use Rattle.stream_rules.specs.Serving.{Some_bytes, Some_of, Outcome, served_read, served_write}
use Rattle.stream_rules.specs.Stream.{Stream}

-- an outcome as a call tells it; an operation that stays is told to come again
abbrev pub moved_by : Option Outcome → Moved
moved_by None = moved.NotYet
moved_by (Some (code.Ok, count)) = moved.Took count
moved_by (Some (code.Reset, count)) = moved.Reset
moved_by (Some (other, count)) = moved.End

-- what a read of so many bytes answers
abbrev pub read_answer : ℕ → Stream → Moved
read_answer wanted stream =
    moved_by (served_read (Some_bytes wanted) 0 stream.arrived stream.read_mark).outcome

-- what a write of these bytes answers
abbrev pub write_answer : List ℕ → Stream → Moved
write_answer bytes stream =
    moved_by (served_write (Some_of bytes) 0 stream.room stream.write_mark).outcome

-- how many bytes a call moved
abbrev pub moved_count : Moved → ℕ
moved_count (moved.Took count) = count
moved_count moved.End = 0
moved_count moved.NotYet = 0
moved_count moved.Reset = 0

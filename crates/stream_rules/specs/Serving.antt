-- What a reading or writing operation gives on the bytes or the room that are there (Asio
-- reference, async_read_some, async_read, async_read_until, async_write_some, async_write). Bytes
-- and room are used up before a mark is seen.
use Rattle.std.specs.Prelude.{ℕ, ◌+◌, ◌-◌, ◌==◌, nat_le, min, List, ◌++◌, Option, Some, None, length, take, drop, if◌then◌else◌}
use Rattle.std.specs.Option.{option_map}
use Rattle.asio_types.specs.declared.code.Code.{Code}
use Rattle.asio_types.specs.declared.code.Code.TheVariants as code
use Rattle.asio_types.specs.declared.mark.ReadMark.{ReadMark}
use Rattle.asio_types.specs.declared.mark.ReadMark.TheVariants as read_mark
use Rattle.asio_types.specs.declared.mark.WriteMark.{WriteMark}
use Rattle.asio_types.specs.declared.mark.WriteMark.TheVariants as write_mark
use Rattle.stream_rules.specs.Delimiter.{first_end}
use Rattle.stream_rules.specs.Stream.{Stream}
-- what an operation does with what is there: how much it uses up, and how it completes, unless it
-- stays
pub use Rattle.stream_rules.specs.declared.serving.Served.{Served}

-- what a reading operation asks for
pub data Reading : Type 0 where
  Some_bytes : (size : ℕ) → Reading
  All_bytes : (size : ℕ) → Reading
  Until : (delimiter : List ℕ) → (max : ℕ) → Reading

-- what a writing operation has to write
pub data Writing : Type 0 where
  Some_of : (bytes : List ℕ) → Writing
  All_of : (bytes : List ℕ) → Writing

-- how an operation completes: its code, and its size
abbrev pub Outcome : Type 0
Outcome = Code × ℕ

abbrev pub read_code : ReadMark → Code
read_code read_mark.Eof = code.Eof
read_code read_mark.Reset = code.Reset

abbrev pub write_code : WriteMark → Code
write_code write_mark.Broken = code.Broken
write_code write_mark.Reset = code.Reset

-- the code of a mark, with the bytes so far; without a mark the operation stays
abbrev pub ended_by : Option Code → ℕ → Option Outcome
ended_by mark size = option_map (λ ended. (ended, size)) mark

-- as much as is there, at most so many; with nothing there the mark is seen
abbrev pub some_of : ℕ → ℕ → Option Code → Served
some_of size there mark =
    if there == 0 then record { used = 0; outcome = ended_by mark 0 }
    else record { used = min size there; outcome = Some (code.Ok, min size there) }

-- so many in all, of which these came before; with fewer there the mark is seen
abbrev pub all_of : ℕ → ℕ → ℕ → Option Code → Served
all_of size before there mark =
    if nat_le size (before + there)
    then record { used = size - before; outcome = Some (code.Ok, size) }
    else record { used = there; outcome = ended_by mark (before + there) }

-- up to and including the delimiter, within the first max bytes; without it nothing is used up
abbrev pub until_found : Option ℕ → ℕ → ℕ → Option Code → Served
until_found (Some count) max there mark = record { used = count; outcome = Some (code.Ok, count) }
until_found None max there mark =
    record {
      used = 0;
      outcome = if nat_le max there then Some (code.NotFound, 0) else ended_by mark 0;
    }

-- a reading operation that got so many bytes before, where these are there
abbrev pub served_read : Reading → ℕ → List ℕ → Option ReadMark → Served
served_read (Some_bytes size) before there mark =
    some_of size (length there) (option_map read_code mark)
served_read (All_bytes size) before there mark =
    all_of size before (length there) (option_map read_code mark)
served_read (Until delimiter max) before there mark =
    until_found (first_end delimiter (take max there)) max (length there)
    (option_map read_code mark)

-- a writing operation of which so many bytes were taken before, where there is so much room
abbrev pub served_write : Writing → ℕ → ℕ → Option WriteMark → Served
served_write (Some_of bytes) before room mark =
    some_of (length bytes) room (option_map write_code mark)
served_write (All_of bytes) before room mark =
    all_of (length bytes) before room (option_map write_code mark)

abbrev pub bytes_of : Writing → List ℕ
bytes_of (Some_of bytes) = bytes
bytes_of (All_of bytes) = bytes

-- the stream once so many bytes were read
abbrev pub after_reading : ℕ → Stream → Stream
after_reading used stream = record stream { arrived = drop used stream.arrived }

-- the stream once so many bytes of an operation, behind those that were taken before, were written
abbrev pub after_writing : Writing → ℕ → ℕ → Stream → Stream
after_writing writing before used stream =
    record stream {
      room = stream.room - used;
      sent = stream.sent ++ take used (drop before (bytes_of writing));
    }

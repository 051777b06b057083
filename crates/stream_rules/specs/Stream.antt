-- One stream of the scripted outside as contracts see it, and what happens to it. Bytes and room
-- are used up before a mark is seen (Asio reference, `async_read_some`, `async_write_some` and
-- `error::basic_errors`).
use Rattle.std.specs.Prelude.{ℕ, ◌+◌, List, [], ◌++◌, Option, None, Some, is_some, if◌then◌else◌}
use Rattle.asio_types.specs.declared.mark.ReadMark.{ReadMark}
use Rattle.asio_types.specs.declared.mark.ReadMark.TheVariants as read_mark
use Rattle.asio_types.specs.declared.mark.WriteMark.{WriteMark}
use Rattle.asio_types.specs.declared.mark.WriteMark.TheVariants as write_mark
use Rattle.asio_types.specs.declared.world.What.{What}
use Rattle.asio_types.specs.declared.world.What.TheVariants as what

pub record Stream : Type 0 where
  -- the bytes that arrived and weren't given
  pub arrived : List ℕ
  -- how many bytes the peer still takes
  pub room : ℕ
  -- what is read once no byte is there, if anything
  pub read_mark : Option ReadMark
  -- what is answered once no room is there, if anything
  pub write_mark : Option WriteMark
  -- all bytes that the peer took
  pub sent : List ℕ

-- a stream to which nothing has happened
abbrev pub new_stream : Stream
new_stream = record { arrived = []; room = 0; read_mark = None; write_mark = None; sent = [] }

-- a mark stays once it is there
abbrev pub first_mark : {M : Type 0} → Option M → M → Option M
first_mark None new = Some new
first_mark (Some old) new = Some old

-- what a world line does: a side that has its mark is left alone
abbrev pub line_performed : What → Stream → Stream
line_performed (what.Feed bytes) s =
    record s { arrived = if is_some s.read_mark then s.arrived else s.arrived ++ bytes }
line_performed what.End s = record s { read_mark = first_mark s.read_mark read_mark.Eof }
line_performed what.Reset s =
    record s {
      read_mark = first_mark s.read_mark read_mark.Reset;
      write_mark = first_mark s.write_mark write_mark.Reset;
    }
line_performed (what.Room count) s =
    record s { room = if is_some s.write_mark then s.room else s.room + count }

-- once no further time point exists, each side without a mark has reached its end
abbrev pub marked_last : Stream → Stream
marked_last s =
    record s {
      read_mark = first_mark s.read_mark read_mark.Eof;
      write_mark = first_mark s.write_mark write_mark.Broken;
    }

-- closing drops the bytes there and the room
abbrev pub closed_stream : Stream → Stream
closed_stream s = record s { arrived = []; room = 0 }

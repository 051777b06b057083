-- What a reactor tells, and what its calls answer. Bytes and room are used up before a mark is seen
-- (Asio reference, `async_read_some`, `async_write_some`); scripted time and its last point are
-- this project's.
use Rattle.std.specs.Prelude.{ℕ, ◌≡◌, ◌≤◌, ⊤, nat_lt, Result, Ok, Err, List, [], Bool, true, false, length, filter, replicate}
use Rattle.std.specs.List.{slice_index_or, slice_set}
use Rattle.asio_types.specs.declared.outside.Moved.{Moved}
use Rattle.asio_types.specs.declared.outside.Moved.TheVariants as moved
use Rattle.asio_types.specs.declared.outside.Point.{Point}
use Rattle.asio_types.specs.declared.outside.Point.TheVariants as point
use Rattle.asio_types.specs.declared.outside.SetupFault.{SetupFault}
use Rattle.asio_types.specs.declared.outside.SetupFault.TheVariants as setup_fault
use Rattle.asio_types.specs.declared.world.Line.{Line}
use Rattle.asio_types.specs.declared.world.World.{World}
use Rattle.asio_types.specs.Faults.{Rose}
use Rattle.stream_rules.specs.Stream.{Stream, closed_stream}
use Rattle.stream_rules.specs.Timetable.{Timetable}
use Rattle.stream_rules.specs.World.{changed_at, perform_lines, lines_at, lines_after, times_after, first_streams, streams_at_last}

-- what every reactor tells
pub record ReactorState : Type 0 where
  -- whether the latest `set_up` succeeded
  pub up : Bool
  -- scripted time
  pub now : ℕ
  -- the distinct times of the world above now, rising
  pub times : List ℕ
  -- for each stream of the world whether it was closed
  pub closed : List Bool
  -- whether an `advance` since the latest `set_up` found no further time point
  pub last : Bool

-- what a reactor may tell besides: its bytes
pub record Outside : Type 0 where
  pub streams : List Stream
  -- the lines to come, in text order
  pub lines : List Line

abbrev pub stream_count : ReactorState → ℕ
stream_count state = length state.closed

-- the stream is one of the world's and wasn't closed
abbrev pub IsOpen : ReactorState → ℕ → Type 0
IsOpen state stream = slice_index_or state.closed stream true ≡ false

-- no world was set up
abbrev pub idle_state : ReactorState
idle_state = record { up = false; now = 0; times = []; closed = []; last = false }

-- what a reactor tells whose time is that of a timetable
abbrev pub state_over : Bool → List Bool → Bool → Timetable → ReactorState
state_over up closed last table =
    record {
      up = up;
      now = table.time;
      times = times_after table.time table.lines;
      closed = closed;
      last = last;
    }

-- set up: time is 0, and nothing is closed
abbrev pub state_ready : World → ReactorState
state_ready world =
    record {
      up = true;
      now = 0;
      times = times_after 0 world.lines;
      closed = replicate world.streams false;
      last = false;
    }

abbrev pub outside_ready : World → Outside
outside_ready world = record { streams = first_streams world; lines = lines_after 0 world.lines }

-- not set up
abbrev pub state_refused : ReactorState → ReactorState
state_refused state = record state { up = false }

-- time moved to this point
abbrev pub state_at : Point → ReactorState → ReactorState
state_at (point.Time time) state =
    record state { now = time; times = filter (λ later. nat_lt time later) state.times }
state_at point.Last state = record state { last = true }

-- the lines of the time are performed; at the last point each side without a mark gets its own
abbrev pub outside_at : Point → Outside → Outside
outside_at (point.Time time) outside =
    record {
      streams = perform_lines (lines_at time outside.lines) outside.streams;
      lines = lines_after time outside.lines;
    }
outside_at point.Last outside = record outside { streams = streams_at_last outside.streams }

-- at least one byte of so many, or none
abbrev pub IsMoveWithin : ℕ → Moved → Type 0
IsMoveWithin limit (moved.Took count) = (1 ≤ count) × (count ≤ limit)
IsMoveWithin limit moved.End = ⊤
IsMoveWithin limit moved.NotYet = ⊤
IsMoveWithin limit moved.Reset = ⊤

-- what a stream answers on which nothing arrives and nothing is taken: its end, once no time point
-- is left
abbrev pub silence : Bool → Moved
silence true = moved.End
silence false = moved.NotYet

-- one stream changed, and nothing else
abbrev pub with_stream : ℕ → (Stream → Stream) → Outside → Outside
with_stream number change outside =
    record outside { streams = changed_at number change outside.streams }

-- the stream was closed
abbrev pub state_closed : ℕ → ReactorState → ReactorState
state_closed stream state = record state { closed = slice_set state.closed stream true }

abbrev pub outside_closed : ℕ → Outside → Outside
outside_closed stream = with_stream stream closed_stream

-- a failure raises the count of faults, and every other answer leaves it
abbrev pub CountsSetupFaults : {T : Type 0} → Result T SetupFault → ℕ → ℕ → Type 0
CountsSetupFaults (Ok value) old new = new ≡ old
CountsSetupFaults (Err setup_fault.Failed) old new = Rose old new
CountsSetupFaults (Err setup_fault.NoMemory) old new = new ≡ old

-- A stream or listener that was closed during a system call is gone once that call has returned (Asio
-- reference, basic_socket::close): the operation that the call was for completes, and the place is free.
use Rattle.std.specs.Prelude.{◌≡◌, ℕ, false, List, [], ◌∷◌, None}
use Rattle.asio_types.specs.declared.code.Code.{Code}
use Rattle.io_rules.specs.declared.limits.Limits.{Limits}
use Rattle.io_rules.specs.declared.name.Name.{Name}
use Rattle.io_rules.specs.declared.operation.Side.{Side}
use Rattle.io_rules.specs.declared.request.Marks.{Marks}
use Rattle.io_rules.specs.Cancelling.{queue_of}
use Rattle.io_rules.specs.Names.{Names, is_unused, place_at, with_freed}
use Rattle.io_rules.specs.State.{ContextState, StreamState, new_stream, stream_at, with_stream}
use Rattle.io_strands.specs.declared.ready.ReadyOp.{ReadyOp}
use Rattle.io_strands.specs.Cell.{Cell}
use Rattle.io_jobs.specs.Listed.{JobList}
use Rattle.io_streams.specs.Pending.{StreamList}
use Rattle.io_timers.specs.Pending.{Timers}
use Rattle.io_scheduler.specs.declared.counts.Counts.{Counts}
use Rattle.io_scheduler.specs.declared.streaming.Streaming.{Streaming}
use Rattle.io_scheduler.specs.declared.tally.Tally.{Tally}
use Rattle.io_scheduler.specs.declared.waiting.Waiting.{Waiting}
use Rattle.io_scheduler.specs.Settling.{IsSettling}

-- it is gone, and its place is free
abbrev pub without_stream : Name → ContextState → ContextState
without_stream name s = record s {
  names = record s.names { streams = with_freed name s.names.streams };
  streams = with_stream name new_stream s.streams;
}

-- these names without its
abbrev pub without_name : Name → Names → Names
without_name name names = record names { streams = with_freed name names.streams }

-- nothing else is pending on a stream than this operation, on this side
pub record IsAlone (side : Side) (n : ℕ) (stream : StreamState) : Type 0 where
  pub own : queue_of side stream ≡ n ∷ []
  pub others : (on : Side) → (side ≡ on → ⊥) → queue_of on stream ≡ []

-- the operation at this place is settled so, and its stream is gone
pub record IsLeaving {H S : Type 0} (marks : H → Marks) (limits : Limits) (counts : Counts) (names : Names)
    (cells : List (Cell H S)) (jobs : JobList (ReadyOp H)) (timers : Timers (Waiting H))
    (streams : StreamList (Streaming H)) (tally : Tally) (name : Name) (side : Side) (place : ℕ) (given : Code)
    (size : ℕ) (s : ContextState) : Type 0 where
  pub hidden : ContextState
  pub settling : IsSettling marks limits counts names cells jobs timers streams tally name side place given size hidden
  pub is : s ≡ without_stream name hidden
  pub alone : IsAlone side settling.op.op (stream_at streams.streams name)
  pub back : (stream_at streams.streams name).out ≡ None
  pub used : is_unused (place_at names.streams name.place).life ≡ false

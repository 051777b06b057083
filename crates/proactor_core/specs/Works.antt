-- A proactor's tables and streams as the half of a history's state that they are, and that the
-- calls of the streams do to it what the definitions of a history say.
use Rattle.std.specs.Prelude.{◌≡◌, ◌<◌, ℕ, List, length, map}
use Rattle.stream_rules.specs.Serving.{Reading, Writing}
use Rattle.stream_rules.specs.Stream.{closed_stream}
use Rattle.stream_rules.specs.World.{changed_at}
use Rattle.history_rules.specs.Performing.{all_of_stream, one_of_stream_cancelled, read_accepted, shut_at, write_accepted}
use Rattle.history_rules.specs.State.{ReactorHalf}
use Rattle.proactor_core.specs.Due.{Due, listed}
use Rattle.proactor_core.specs.Streams.{StreamView, aborts_of_op, bad_if_closed, closed_view, queues_in, read_begun, stream_in, with_stream_in, without_op, write_begun}
use Rattle.proactor_core.specs.Tables.{TableState, with_tables}

-- a half of a state with what the tables and the streams have; what arrived and was sent is its own
abbrev pub with_works : TableState → List StreamView → ReactorHalf → ReactorHalf
with_works s streams half = record (with_tables s half) { queues = map queues_in streams }

-- what is due once streams have listed more
abbrev pub with_due_list : Due → TableState → TableState
with_due_list due s = record s { due = due }

pub record StreamCallsFollow (s : TableState) (streams : List StreamView) (half : ReactorHalf)
    : Type 0 where
  pub read : (op stream : ℕ) (reading : Reading) → stream < length streams →
      with_works (with_due_list (bad_if_closed op (stream_in streams stream) s.due) s)
      (with_stream_in stream (read_begun op s.accepted reading) streams) half
      ≡ read_accepted op stream reading (with_works s streams half)
  pub write : (op stream : ℕ) (writing : Writing) → stream < length streams →
      with_works (with_due_list (bad_if_closed op (stream_in streams stream) s.due) s)
      (with_stream_in stream (write_begun op s.accepted writing) streams) half
      ≡ write_accepted op stream writing (with_works s streams half)
  pub cancel : (op stream : ℕ) → stream < length streams →
      with_works (with_due_list (listed (aborts_of_op op (stream_in streams stream)) s.due) s)
      (with_stream_in stream (without_op op) streams) half
      ≡ one_of_stream_cancelled op stream (with_works s streams half)
  pub close : (stream : ℕ) → stream < length streams →
      with_works
      (with_due_list
      (listed (all_of_stream (stream_in streams stream).reads (stream_in streams stream).writes)
      s.due) s) (with_stream_in stream closed_view streams)
      (record half { streams = changed_at stream closed_stream half.streams })
      ≡ shut_at stream (with_works s streams half)

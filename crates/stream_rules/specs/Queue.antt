-- A queue of operations on one side of a stream: served one at a time in order of acceptance (Asio
-- reference, async_read and async_write ask that no other operation on that side runs; here they
-- queue, which is this project's own).
use Rattle.std.specs.Prelude.{ℕ, ◌+◌, List, [], ◌∷◌, Option, Some, None}
use Rattle.stream_rules.specs.Stream.{Stream}
use Rattle.stream_rules.specs.declared.queue.Queued.{Queued}
-- an operation that completed: its number, and its code and size
pub use Rattle.stream_rules.specs.declared.queue.Completion.{Completion}
use Rattle.stream_rules.specs.Serving.{Reading, Writing, Outcome, Served, served_read, served_write, after_reading, after_writing}

-- an operation that is pending: its number, when it was accepted, what it asks for, and the bytes
-- that it moved so far
pub record Pending (Asks : Type 0) : Type 0 where
  pub op : ℕ
  pub accepted : ℕ
  pub asks : Asks
  pub moved : ℕ

-- an operation in a queue, with what it asks for
abbrev pub asked : {Asks : Type 0} → (ℕ → Asks) → Queued → Pending Asks
asked asks queued = record {
  op = queued.op;
  accepted = queued.accepted;
  asks = asks queued.op;
  moved = queued.moved;
}

-- what serving a queue leaves: what completed, in order, the operations that stay, and the stream
pub record QueueServed (Asks : Type 0) : Type 0 where
  pub completed : List Completion
  pub staying : List (Pending Asks)
  pub stream : Stream

-- how a kind of operations is served: by what it asks for, what it moved before and the stream; and
-- what that does to the stream
pub record Side (Asks : Type 0) : Type 0 where
  pub served : Asks → ℕ → Stream → Served
  pub after : Asks → ℕ → ℕ → Stream → Stream

abbrev pub reading_side : Side Reading
reading_side = record {
  served = λ reading moved stream. served_read reading moved stream.arrived stream.read_mark;
  after = λ reading moved used stream. after_reading used stream;
}

abbrev pub writing_side : Side Writing
writing_side = record {
  served = λ writing moved stream. served_write writing moved stream.room stream.write_mark;
  after = λ writing moved used stream. after_writing writing moved used stream;
}

-- one more operation completed in front of what was served
abbrev pub completed_first : {Asks : Type 0} → ℕ → Outcome → QueueServed Asks → QueueServed Asks
completed_first op outcome rest =
    record rest { completed = record { op = op; outcome = outcome } ∷ rest.completed }

-- what serving a head and the queue behind it leaves
abbrev pub served_head : {Asks : Type 0} → Pending Asks → List (Pending Asks) → ℕ → Stream →
    QueueServed Asks → Option Outcome → QueueServed Asks
served_head head queue used stream rest None =
    record {
      completed = [];
      staying = record head { moved = head.moved + used } ∷ queue;
      stream = stream;
    }
served_head head queue used stream rest (Some outcome) = completed_first head.op outcome rest

-- the head is served, and where it completes the next one; a head that stays keeps what it moved
abbrev pub served_queue : {Asks : Type 0} → Side Asks → List (Pending Asks) → Stream →
    QueueServed Asks
served_queue side [] stream = record { completed = []; staying = []; stream = stream }
served_queue side (head ∷ queue) stream =
    let served = side.served head.asks head.moved stream in
    let left = side.after head.asks head.moved served.used stream in
    served_head head queue served.used left (served_queue side queue left) served.outcome

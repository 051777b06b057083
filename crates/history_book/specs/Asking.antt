-- What the operations of a script ask of their streams, and a stream's queues as the replay holds
-- them.
use Rattle.std.specs.Prelude.{ℕ, ◌≤◌, Option, Some, None, IsSome, All, [], map}
use Rattle.std.specs.Option.{unwrap_or}
use Rattle.std.specs.VecDeque.{deque_capacity}
use Rattle.session_script.specs.declared.act.Act.{Act}
use Rattle.session_script.specs.Script.{ScriptModel, act_of}
use Rattle.stream_rules.specs.Queue.{asked}
use Rattle.stream_rules.specs.Serving.{Reading, Writing, Some_bytes, Some_of}
use Rattle.history_rules.specs.Kinds.{reading_of, writing_of}
use Rattle.history_rules.specs.State.{StreamQueues}
use Rattle.history_book.specs.declared.asking.Queues.{Queues}

abbrev pub reading_in : Option Act → Option Reading
reading_in None = None
reading_in (Some act) = reading_of act

abbrev pub writing_in : Option Act → Option Writing
writing_in None = None
writing_in (Some act) = writing_of act

-- an operation that reads
abbrev pub IsReading : ScriptModel → ℕ → Type 0
IsReading script op = IsSome (reading_in (act_of script op))

-- an operation that writes
abbrev pub IsWriting : ScriptModel → ℕ → Type 0
IsWriting script op = IsSome (writing_in (act_of script op))

-- what it asks for
abbrev pub asked_reading : ScriptModel → ℕ → Reading
asked_reading script op = unwrap_or (reading_in (act_of script op)) (Some_bytes 0)

-- what it has to write
abbrev pub asked_writing : ScriptModel → ℕ → Writing
asked_writing script op = unwrap_or (writing_in (act_of script op)) (Some_of [])

-- the queues of a stream, with what their operations ask for
abbrev pub queues_of : ScriptModel → Queues → StreamQueues
queues_of script queues = record {
  closed = queues.closed;
  reads = map (asked (asked_reading script)) queues.reads.items;
  writes = map (asked (asked_writing script)) queues.writes.items;
}

-- the queues hold operations of their kinds, and have room for so many
pub record AreQueues (script : ScriptModel) (room : ℕ) (queues : Queues) : Type 0 where
  pub reads : All (λ queued. IsReading script queued.op) queues.reads.items
  pub writes : All (λ queued. IsWriting script queued.op) queues.writes.items
  pub reads_room : room ≤ deque_capacity queues.reads
  pub writes_room : room ≤ deque_capacity queues.writes

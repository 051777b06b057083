-- What is cancelled in the queues of a stream.
use Rattle.std.specs.Prelude.{ℕ, ◌≡◌, ◌<◌, ◌≤◌, ◌+◌, length, ◌==◌, nat_lt, Bool, true, false, List, [], ◌∷◌, map, filter}
use Rattle.std.specs.List.{slice_index_or}
use Rattle.std.specs.VecDeque.{deque_capacity}
use Rattle.stream_rules.specs.declared.queue.Completion.{Completion}
use Rattle.stream_rules.specs.declared.queue.Queued.{Queued}
use Rattle.stream_rules.specs.Queue.{asked}
use Rattle.stream_rules.specs.Serving.{Reading, Writing}
use Rattle.history_book.specs.declared.asking.Queues.{Queues}
use Rattle.history_rules.specs.Performing.{aborted, all_of_stream}

abbrev pub is_queued : ℕ → Queued → Bool
is_queued op queued = queued.op == op

-- an operation reports the bytes that it moved so far
abbrev pub abort_of : Queued → Completion
abort_of queued = aborted queued.op queued.moved

abbrev pub aborts_of : (Queued → Bool) → List Queued → List Completion
aborts_of test queue = map abort_of (filter test queue)

-- whether the operation that was accepted first is a read
abbrev pub reads_go_first : List Queued → List Queued → Bool
reads_go_first [] writes = false
reads_go_first (read ∷ reads) [] = true
reads_go_first (read ∷ reads) (write ∷ writes) = nat_lt read.accepted write.accepted

-- this operation comes before all others of a stream, which have these left then
abbrev pub IsFirstOf : Queued → List Queued → List Queued → List Queued → List Queued → Type 0
IsFirstOf first reads writes reads_left writes_left =
    (f : ℕ → Reading) (g : ℕ → Writing) →
    all_of_stream (map (asked f) reads) (map (asked g) writes)
    ≡ abort_of first ∷ all_of_stream (map (asked f) reads_left) (map (asked g) writes_left)

-- queues that are empty, and have room for so many operations
pub record IsNew (room : ℕ) (queues : Queues) : Type 0 where
  pub open_still : queues.closed ≡ false
  pub no_reads : queues.reads.items ≡ []
  pub no_writes : queues.writes.items ≡ []
  pub reads_room : room ≤ deque_capacity queues.reads
  pub writes_room : room ≤ deque_capacity queues.writes

-- such queues for each stream, by the room that each has
abbrev pub AreNew : List ℕ → List Queues → Type 0
AreNew rooms queues =
    (stream : ℕ) (any : Queues) → stream < length queues →
    IsNew (slice_index_or rooms stream 0) (slice_index_or queues stream any)

-- how many operations a stream has
abbrev pub size_of : Queues → ℕ
size_of queues = length queues.reads.items + length queues.writes.items

abbrev pub IsEmpty : Queues → Type 0
IsEmpty queues = (queues.reads.items ≡ []) × (queues.writes.items ≡ [])

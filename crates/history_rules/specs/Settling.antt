-- What completes in a turn of the reactor, and in which order (Asio reference, steady_timer,
-- async_read and its kin; the order within one turn is this project's own): what was cancelled, the
-- waits that are due, and then what each stream serves.
use Rattle.std.specs.Prelude.{◌≡◌, All, ℕ, zero, suc, length, Bool, true, not, nat_le, List, [], ◌∷◌, ◌++◌, map, filter, if◌then◌else◌}
use Rattle.std.specs.List.{slice_set}
use Rattle.asio_types.specs.declared.code.Code.TheVariants as code
use Rattle.stream_rules.specs.declared.queue.Completion.{Completion}
use Rattle.stream_rules.specs.Queue.{reading_side, writing_side, served_queue}
use Rattle.stream_rules.specs.Stream.{Stream}
use Rattle.stream_rules.specs.World.{stream_at}
use Rattle.history_rules.specs.Performing.{queues_at, with_due, with_queues}
use Rattle.history_rules.specs.Waits.{expiry_in}
use Rattle.history_rules.specs.State.{ReactorHalf, Wait, StreamQueues}

-- an item put before those whose key isn't less
abbrev pub put_by : {X : Type 0} → (X → ℕ) → X → List X → List X
put_by key x [] = x ∷ []
put_by key x (first ∷ rest) =
    if nat_le (key x) (key first) then x ∷ (first ∷ rest) else first ∷ put_by key x rest

-- the items by key, and those of one key as they stand
abbrev pub sorted_by : {X : Type 0} → (X → ℕ) → List X → List X
sorted_by key [] = []
sorted_by key (x ∷ xs) = put_by key x (sorted_by key xs)

abbrev pub expiry_of : ReactorHalf → Wait → ℕ
expiry_of r wait = expiry_in r.expiries wait

abbrev pub is_due : ReactorHalf → Wait → Bool
is_due r wait = nat_le (expiry_of r wait) r.now

-- a wait whose time has come
abbrev pub waited : Wait → Completion
waited wait = record { op = wait.op; outcome = (code.Ok, 0) }

-- the waits that are due, by expiry and then by acceptance
abbrev pub due_waits : ReactorHalf → List Completion
due_waits r = map waited (sorted_by (expiry_of r) (filter (is_due r) r.waits))

-- what serving a stream leaves: its reads are served from the head, and then its writes
pub record StreamServed : Type 0 where
  pub completed : List Completion
  pub stream : Stream
  pub queues : StreamQueues

abbrev pub served_stream : Stream → StreamQueues → StreamServed
served_stream stream queues =
    let reads = served_queue reading_side queues.reads stream in
    let writes = served_queue writing_side queues.writes reads.stream in record {
      completed = reads.completed ++ writes.completed;
      stream = writes.stream;
      queues = record queues { reads = reads.staying; writes = writes.staying };
    }

-- the stream with this number is served
abbrev pub served_at : ℕ → ReactorHalf → ReactorHalf
served_at stream r =
    let served = served_stream (stream_at r.streams stream) (queues_at r stream) in
    with_due served.completed (with_queues
    (record r { streams = slice_set r.streams stream served.stream }) stream served.queues)

-- the first streams are served, by rising number
abbrev pub served_below : ℕ → ReactorHalf → ReactorHalf
served_below zero r = r
served_below (suc stream) r = served_at stream (served_below stream r)

-- all streams are served, where their bytes are told
abbrev pub with_streams_served : Bool → ReactorHalf → ReactorHalf
with_streams_served told r = if told then served_below (length r.queues) r else r

-- the waits that are due complete
abbrev pub with_waits_served : ReactorHalf → ReactorHalf
with_waits_served r =
    with_due (due_waits r) (record r { waits = filter (λ wait. not (is_due r wait)) r.waits })

-- a turn of the reactor after which nothing more completes by itself; told says whether bytes are
-- told
abbrev pub settled : Bool → ReactorHalf → ReactorHalf
settled told r =
    with_streams_served told (record (with_waits_served r) { whole_turn = true; reached = 0 })

-- the waits that are due have one expiry
abbrev pub AreDueTogether : ReactorHalf → Type 0
AreDueTogether r =
    (expiry : ℕ) × All (λ wait. expiry_of r wait ≡ expiry) (filter (is_due r) r.waits)

-- How streams are kept: what is known of each, and a queue for each of its sides. These words are for
-- this crate alone, but for what holds of all streams at every time.
use Rattle.std.specs.Prelude.{◌≡◌, ◌<◌, ℕ, zero, suc, ◌*◌, ◌^◌, nat_lt, List, [], ◌∷◌, Option, Some, None, drop, filter, length, map, if◌then◌else◌}
use Rattle.std.specs.List.{slice_index_or}
use Rattle.io_rules.specs.declared.name.Name.{Name}
use Rattle.io_rules.specs.declared.operation.Side.{Side}
use Rattle.io_rules.specs.declared.operation.Side.TheVariants as side
use Rattle.io_rules.specs.Cancelling.{is_out_for, queue_of}
use Rattle.io_rules.specs.State.{StreamState, stream_at}
use Rattle.io_queues.specs.Ordered.{AreApart, Each, Rises, in_order}
use Rattle.io_streams.specs.declared.first.First.{First}
use Rattle.io_streams.specs.declared.pending.PendingOp.{PendingOp}
use Rattle.io_streams.specs.declared.stream.Stream.{Stream}
use Rattle.io_streams.specs.Pending.{Entry, StreamList, is_at, number_of, op_of}

-- what holds of all streams at every time
pub record IsWhole {T : Type 0} (s : StreamList T) : Type 0 where
  -- operations are in order of acceptance, each at a place of its own
  pub rises : Rises op_of s.ops
  pub apart : AreApart s.ops
  -- each is on a side of a stream that is there
  pub within : Each (λ op. op.item.stream.place < length s.streams) s.ops
  -- and each side has its own
  pub sides : (name : Name) (side : Side) →
      queue_of side (stream_at s.streams name) ≡ map number_of (filter (is_at name.place side) s.ops)

-- each stream has three queues, one behind the other
abbrev pub queue_number : ℕ → Side → ℕ
queue_number zero side.Read = 0
queue_number zero side.Write = 1
queue_number zero side.Connect = 2
queue_number (suc place) side = suc (suc (suc (queue_number place side)))

-- as the rules have it, with these operations
abbrev pub state_of : {T : Type 0} → Stream → List (Entry (PendingOp T)) → List (Entry (PendingOp T)) →
    List (Entry (PendingOp T)) → StreamState
state_of stream reads writes connects = record {
  listener = stream.listener;
  linked = stream.linked;
  reads = map number_of reads;
  writes = map number_of writes;
  connects = map number_of connects;
  held = stream.held;
  searched = stream.searched;
  out = stream.out;
  reserved = stream.reserved;
}

abbrev pub states_of : {T : Type 0} → List Stream → List (List (Entry (PendingOp T))) → List StreamState
states_of (stream ∷ streams) (reads ∷ writes ∷ connects ∷ queues) =
    state_of stream reads writes connects ∷ states_of streams queues
states_of streams queues = []

-- the operations of a side but the one whose system call is under way
abbrev pub untried_at : {T : Type 0} → Name → Side → StreamList T → List (Entry (PendingOp T))
untried_at name side s =
    if is_out_for side (stream_at s.streams name).out then drop 1 (filter (is_at name.place side) s.ops)
    else filter (is_at name.place side) s.ops

abbrev pub first_op : {T : Type 0} → List (Entry (PendingOp T)) → Option First
first_op [] = None
first_op (op ∷ ops) = Some (record { op = number_of op; place = op.place })

-- the one that was accepted earlier
abbrev pub earlier_of : Option First → Option First → Option First
earlier_of None other = other
earlier_of (Some one) None = Some one
earlier_of (Some one) (Some other) = if nat_lt other.op one.op then Some other else Some one

-- of all sides
abbrev pub first_untried : {T : Type 0} → Name → StreamList T → Option First
first_untried name s =
    earlier_of
    (earlier_of (first_op (untried_at name side.Read s)) (first_op (untried_at name side.Write s)))
    (first_op (untried_at name side.Connect s))

-- it is an operation of the side that has this queue
abbrev pub IsOn : {T : Type 0} → ℕ → Entry (PendingOp T) → Type 0
IsOn queue op = queue_number op.item.stream.place op.item.side ≡ queue

pub record IsStreams {T : Type 0} (streams : List Stream) (queues : List (List (Entry (PendingOp T)))) :
    Type 0 where
  pub as_many : length queues ≡ length streams * 3
  pub small : length streams * 3 < 2 ^ 32
  pub rises : Rises op_of (in_order op_of queues)
  pub apart : AreApart (in_order op_of queues)
  pub each_rises : (k : ℕ) → Rises op_of (slice_index_or queues k [])
  pub own : (k : ℕ) → Each (IsOn k) (slice_index_or queues k [])

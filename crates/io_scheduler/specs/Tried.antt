-- A system call on a socket begins, for the first operation of a side (Asio reference,
-- basic_stream_socket, basic_socket_acceptor; Overview, "The Proactor Design Pattern").
use Rattle.std.specs.Prelude.{◌≡◌, ◌&&◌, ℕ, not, Bool, true, false, List, ◌∷◌, Option, Some, None}
use Rattle.io_rules.specs.declared.event.Event.{Event}
use Rattle.io_rules.specs.declared.event.Event.TheVariants as event
use Rattle.io_rules.specs.declared.limits.Limits.{Limits}
use Rattle.io_rules.specs.declared.name.Name.{Name}
use Rattle.io_rules.specs.declared.op.Op.{Op}
use Rattle.io_rules.specs.declared.operation.Side.{Side}
use Rattle.io_rules.specs.declared.place.Life.TheVariants as life
use Rattle.io_rules.specs.Changes.{is_out}
use Rattle.io_rules.specs.Completing.{kind_of}
use Rattle.io_rules.specs.Legal.{MayHappen, state_of}
use Rattle.io_rules.specs.Names.{Names, any_free, is_alive}
use Rattle.io_rules.specs.Serving.{first_of}
use Rattle.io_rules.specs.Spares.{with_life_of}
use Rattle.io_rules.specs.State.{ContextState, StreamState, stream_at}
use Rattle.io_rules.specs.Tries.{head_of, is_accept_of, is_linked_for, may_be_tried, moved_by}
use Rattle.io_queues.specs.Queued.{found_in}
use Rattle.io_streams.specs.declared.pending.PendingOp.{PendingOp}
use Rattle.io_streams.specs.Pending.{IsHead, StreamList, item_of, with_item}
use Rattle.io_scheduler.specs.declared.streaming.Streaming.{Streaming}
use Rattle.io_scheduler.specs.declared.attempt.Attempt.{Attempt}

-- an accept needs a place for what it makes
abbrev pub has_place : Names → Bool → Bool
has_place names false = true
has_place names true = any_free names.streams

-- a system call for this side may begin
abbrev pub may_try : ContextState → Name → Side → Bool
may_try s name side =
    not s.stopped && (is_alive s.names.streams name && (not (is_out (stream_at s.streams name).out)
    && (may_be_tried (stream_at s.streams name) (head_of s name side)
    && has_place s.names (is_accept_of (head_of s name side)))))

abbrev pub moved_of : Option Op → ℕ
moved_of None = 0
moved_of (Some op) = moved_by op.phase

-- it is for the first operation of this side
pub record IsAttempt (name : Name) (side : Side) (head : Option Op) (it : Attempt) : Type 0 where
  pub stream : it.stream ≡ name
  pub on : it.side ≡ side
  pub kind : it.kind ≡ kind_of head
  pub moved : it.moved ≡ moved_of head

pub record HasTried (limits : Limits) (name : Name) (side : Side) (reserved : Option Name) (old new : List Event) :
    Type 0 where
  pub may : MayHappen (state_of limits old) (event.Tried name side reserved)
  pub is : new ≡ event.Tried name side reserved ∷ old

-- these names, with a name of a stream that is kept for an operation
abbrev pub with_kept : ℕ → Option Name → Names → Names
with_kept op reserved names = record names { streams = with_life_of (life.Kept op) reserved names.streams }

-- a system call for an operation of a stream may begin, unless one is under way
abbrev pub is_ready_for : {H : Type 0} → StreamState → Streaming H → Bool
is_ready_for stream item = not item.cancelled && is_linked_for stream item.kind

-- the first operation of a side, at this place
pub record IsTriable {H : Type 0} (name : Name) (side : Side) (s : StreamList (Streaming H)) (place : ℕ) :
    Type 0 where
  pub op : PendingOp (Streaming H)
  pub found : found_in place s.ops ≡ Some op
  pub head : IsHead name side s op
  pub back : (stream_at s.streams name).out ≡ None
  pub ready : is_ready_for (stream_at s.streams name) op.item ≡ true

-- none may begin: one is under way, none is pending there, or the first has to wait
pub data IsUntriable {H : Type 0} (name : Name) (side : Side) (s : StreamList (Streaming H)) : Type 0 where
  is_busy : is_out (stream_at s.streams name).out ≡ true → IsUntriable name side s
  has_none : first_of side (stream_at s.streams name) ≡ None → IsUntriable name side s
  waits : (op : PendingOp (Streaming H)) → IsHead name side s op →
      is_ready_for (stream_at s.streams name) op.item ≡ false → IsUntriable name side s

-- its buffer goes into the system call
abbrev pub lent : {H : Type 0} → Streaming H → Streaming H
lent item = record item { buffer = None }

abbrev pub lent_if : {H : Type 0} → ℕ → Option (Streaming H) → StreamList (Streaming H) → StreamList (Streaming H)
lent_if place None s = s
lent_if place (Some item) s = with_item place (lent item) s

abbrev pub lent_at : {H : Type 0} → ℕ → StreamList (Streaming H) → StreamList (Streaming H)
lent_at place s = lent_if place (item_of (found_in place s.ops)) s

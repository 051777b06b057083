-- A socket is back from a system call (Asio reference, Overview, "The Proactor Design Pattern"): its
-- operation has its buffer again, and is as far as the call brought it.
use Rattle.std.specs.Prelude.{◌≡◌, ◌<◌, ℕ, true, false, List, ◌∷◌, Option, Some, None, length}
use Rattle.std.specs.Global.{Vec}
use Rattle.io_rules.specs.declared.event.Event.{Event}
use Rattle.io_rules.specs.declared.event.Event.TheVariants as event
use Rattle.io_rules.specs.declared.gave.Gave.{Gave}
use Rattle.io_rules.specs.declared.gave.Gave.TheVariants as gave
use Rattle.io_rules.specs.declared.limits.Limits.{Limits}
use Rattle.io_rules.specs.declared.name.Name.{Name}
use Rattle.io_rules.specs.declared.operation.Side.{Side}
use Rattle.io_rules.specs.Cancelling.{is_out_for}
use Rattle.io_rules.specs.Names.{Names}
use Rattle.io_rules.specs.Serving.{first_of}
use Rattle.io_rules.specs.State.{StreamState, new_stream, stream_at}
use Rattle.io_rules.specs.Tries.{place_made}
use Rattle.io_queues.specs.Queued.{found_in}
use Rattle.io_streams.specs.declared.pending.PendingOp.{PendingOp}
use Rattle.io_streams.specs.Pending.{IsHead, StreamList, item_of, opened, with_item}
use Rattle.io_scheduler.specs.declared.returning.Came.{Came}
use Rattle.io_scheduler.specs.declared.returning.Came.TheVariants as came
use Rattle.io_scheduler.specs.declared.streaming.Streaming.{Streaming}
use Rattle.io_scheduler.specs.Come.{HaveCome}
use Rattle.io_scheduler.specs.Returned.{came_of, fits_back}
use Rattle.io_scheduler.specs.Settling.{Ends, all_done}

-- the first operation of a side, at this place, whose system call is under way and may give this
pub record IsReturnable {H : Type 0} (name : Name) (side : Side) (s : StreamList (Streaming H)) (place : ℕ)
    (given : Gave) : Type 0 where
  pub op : PendingOp (Streaming H)
  pub found : found_in place s.ops ≡ Some op
  pub head : IsHead name side s op
  pub out : is_out_for side (stream_at s.streams name).out ≡ true
  pub fit : fits_back op.item.kind op.item.moved given ≡ true

-- no system call is under way for this side, or it can't give this
pub data IsStale {H : Type 0} (name : Name) (side : Side) (s : StreamList (Streaming H)) (given : Gave) :
    Type 0 where
  is_in : is_out_for side (stream_at s.streams name).out ≡ false → IsStale name side s given
  has_none : first_of side (stream_at s.streams name) ≡ None → IsStale name side s given
  misfits : (op : PendingOp (Streaming H)) → IsHead name side s op →
      fits_back op.item.kind op.item.moved given ≡ false → IsStale name side s given

-- how far it brings the operation at this place
abbrev pub CameAt : {H : Type 0} → ℕ → Gave → StreamList (Streaming H) → Came → Type 0
CameAt {H} place given s come = (op : PendingOp (Streaming H)) → found_in place s.ops ≡ Some op →
    come ≡ came_of op.item.kind given op.item.moved op.item.cancelled

-- how many bytes an operation has moved then that had moved so many
abbrev pub so_far : Came → ℕ → ℕ
so_far (came.On moved) old = moved
so_far (came.Settles gets) old = old

-- it has this buffer again
abbrev pub given_back : {H : Type 0} → Came → Option (Vec ℕ) → Streaming H → Streaming H
given_back come buffer item = record item { buffer = buffer; moved = so_far come item.moved }

abbrev pub given_if : {H : Type 0} → ℕ → Came → Option (Vec ℕ) → Option (Streaming H) →
    StreamList (Streaming H) → StreamList (Streaming H)
given_if place come buffer None s = s
given_if place come buffer (Some item) s = with_item place (given_back come buffer item) s

abbrev pub given_at : {H : Type 0} → ℕ → Came → Option (Vec ℕ) → StreamList (Streaming H) →
    StreamList (Streaming H)
given_at place come buffer s = given_if place come buffer (item_of (found_in place s.ops)) s

-- these names, of which one that was kept for what an accept makes names that now, or is free again
abbrev pub with_made : Gave → Option Name → Names → Names
with_made given reserved names = record names { streams = place_made given reserved names.streams }

-- what an accept made, if it did
abbrev pub made_of : Gave → Option Name → Option Name
made_of gave.Made reserved = reserved
made_of given reserved = None

-- a stream may be made by this name: its place is there, and nothing is at it
pub record IsUnusedAt (streams : List StreamState) (name : Name) : Type 0 where
  pub within : name.place < length streams
  pub unused : stream_at streams name ≡ new_stream

abbrev pub MayOpen : Option Name → List StreamState → Type 0
MayOpen None streams = Unit {0}
MayOpen (Some name) streams = IsUnusedAt streams name

-- it is connected
abbrev pub opened_of : {H : Type 0} → Option Name → StreamList (Streaming H) → StreamList (Streaming H)
opened_of None s = s
opened_of (Some name) s = opened name false true s

-- it has returned, and what that settles has completed, with those behind it that need no system call
pub record HasComeBack (limits : Limits) (name : Name) (side : Side) (given : Gave) (old new : List Event) :
    Type 0 where
  pub ends : List Ends
  pub come : HaveCome limits (event.Back name side given ∷ all_done ends) old new

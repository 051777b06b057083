-- A bounded channel with asynchronous send and receive (Asio reference,
-- experimental::basic_channel: async_send, async_receive, close, cancel, capacity). This project's
-- own is what closing does to what is pending and to what is buffered, and deadlines.
use Rattle.std.specs.Prelude.{◌≡◌, ◌≤◌, ℕ, ◌+◌, ◌-◌, Bool, true, false, not, ◌||◌, List, [], ◌∷◌, ◌++◌, Option, filter, length, map, nat_lt, if◌then◌else◌}
use Rattle.std.specs.List.{list_any}
use Rattle.chan_core.specs.declared.done.ChanCode.{ChanCode}
use Rattle.chan_core.specs.declared.done.ChanCode.TheVariants as chan_code
use Rattle.chan_core.specs.declared.done.ChanDone.{ChanDone}
use Rattle.chan_core.specs.declared.pending.PendingOp.{PendingOp}
use Rattle.chan_core.specs.Done.{ended, got}
use Rattle.chan_core.specs.Pending.{ends_with, has_deadline, has_number}

pub record Channel : Type 0 where
  -- how many values the buffer holds
  pub capacity : ℕ
  -- how many operations may be pending
  pub room : ℕ
  pub buffer : List ℕ
  -- the operations that haven't completed, each kind in the order of its calls
  pub sends : List (PendingOp ℕ)
  pub receives : List (PendingOp Unit)
  pub closed : Bool
  -- what has completed and wasn't told yet, in order
  pub due : List ChanDone

-- a channel that is open, with nothing in it
abbrev pub new_channel : ℕ → ℕ → Channel
new_channel capacity room = record {
  capacity = capacity;
  room = room;
  buffer = [];
  sends = [];
  receives = [];
  closed = false;
  due = [];
}

-- how many more operations may be pending
abbrev pub spare_in : Channel → ℕ
spare_in c = c.room - (length c.sends + length c.receives)

-- whether an operation of this number is pending
abbrev pub is_pending : ℕ → Channel → Bool
is_pending op c = list_any (has_number op) c.sends || list_any (has_number op) c.receives

-- these complete, after what is due
abbrev pub telling : List ChanDone → Channel → Channel
telling done c = record c { due = c.due ++ done }

-- a send over an open channel with these pending receives: the first of them gets the value; else
-- the buffer does, if it isn't full; else the send is pending
abbrev pub sent_to : List (PendingOp Unit) → ℕ → ℕ → Option ℕ → Channel → Channel
sent_to (first ∷ rest) op value deadline c =
    telling (ended op chan_code.Ok ∷ got first.op value ∷ []) (record c { receives = rest })
sent_to [] op value deadline c =
    if nat_lt (length c.buffer) c.capacity
    then telling (ended op chan_code.Ok ∷ []) (record c { buffer = c.buffer ++ value ∷ [] })
    else record c {
      sends = c.sends ++ record { op = op; deadline = deadline; value = value } ∷ [];
    }

abbrev pub sent : ℕ → ℕ → Option ℕ → Channel → Channel
sent op value deadline c =
    if c.closed then telling (ended op chan_code.Closed ∷ []) c
    else sent_to c.receives op value deadline c

-- the first of these pending sends, if there is one, goes into the buffer
abbrev pub refilled : List (PendingOp ℕ) → Channel → Channel
refilled [] c = c
refilled (first ∷ rest) c =
    telling (ended first.op chan_code.Ok ∷ [])
    (record c { buffer = c.buffer ++ first.value ∷ []; sends = rest })

-- a receive from this buffer and these pending sends: it gets the first value of the buffer, whose
-- place the first send takes; else the value of the first send; else it is pending, if the channel
-- is open
abbrev pub received_from : List ℕ → List (PendingOp ℕ) → ℕ → Option ℕ → Channel → Channel
received_from (value ∷ values) sends op deadline c =
    refilled sends (telling (got op value ∷ []) (record c { buffer = values }))
received_from [] (first ∷ rest) op deadline c =
    telling (ended first.op chan_code.Ok ∷ got op first.value ∷ []) (record c { sends = rest })
received_from [] [] op deadline c =
    if c.closed then telling (ended op chan_code.Closed ∷ []) c
    else record c {
      receives = c.receives ++ record { op = op; deadline = deadline; value = tt } ∷ [];
    }

abbrev pub received : ℕ → Option ℕ → Channel → Channel
received op deadline c = received_from c.buffer c.sends op deadline c

-- all pending operations complete with this code, the sends first
abbrev pub ended_all : ChanCode → Channel → Channel
ended_all code c =
    telling (map (ends_with code) c.sends ++ map (ends_with code) c.receives)
    (record c { sends = []; receives = [] })

-- what is buffered can still be received
abbrev pub closed : Channel → Channel
closed c = record (ended_all chan_code.Closed c) { closed = true }

abbrev pub cancelled : Channel → Channel
cancelled c = ended_all chan_code.Cancelled c

-- the pending operations with this deadline are cancelled, the sends first
abbrev pub lapsed : ℕ → Channel → Channel
lapsed wait c =
    telling
    (map (ends_with chan_code.Cancelled) (filter (has_deadline wait) c.sends)
    ++ map (ends_with chan_code.Cancelled) (filter (has_deadline wait) c.receives))
    (record c {
      sends = filter (λ pending. not (has_deadline wait pending)) c.sends;
      receives = filter (λ pending. not (has_deadline wait pending)) c.receives;
    })

-- What follows is for this crate alone: what keeps the room that calls need.

-- the pending operations and what is due have room, and nothing is pending once it is closed
pub record IsChannel (c : Channel) : Type 0 where
  pub buffered : length c.buffer ≤ c.capacity
  pub room : length c.sends + length c.receives + length c.due ≤ c.room
  pub closed : c.closed ≡ true → length c.sends + length c.receives ≡ 0

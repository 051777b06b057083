-- What a handler initiates while it executes (Asio reference, Requirements on asynchronous operations;
-- that it takes effect when the handler has returned is this project's own).
use Rattle.std.specs.Prelude.{◌≡◌, ◌<◌, ◌≤◌, ℕ, ◌+◌, ◌-◌, ◌||◌, min, nat_lt, Bool, true, false, List, [], ◌∷◌, ◌++◌, length, Option, None, Some}
use Rattle.std.specs.Duration.{as_nanos}
use Rattle.std.specs.Global.{Vec}
use Rattle.std.specs.declared.time.Duration.{Duration}
use Rattle.io_rules.specs.declared.control.Control.{Control}
use Rattle.io_rules.specs.declared.control.Control.TheVariants as control
use Rattle.io_rules.specs.declared.name.Kind.{Kind}
use Rattle.io_rules.specs.declared.name.Kind.TheVariants as kind
use Rattle.io_rules.specs.declared.name.Lane.{Lane}
use Rattle.io_rules.specs.declared.name.Name.{Name}
use Rattle.io_rules.specs.declared.operation.Operation.{Operation}
use Rattle.io_rules.specs.declared.operation.Operation.TheVariants as operation
use Rattle.io_rules.specs.declared.request.Marks.{Marks}
use Rattle.io_rules.specs.declared.request.Request.{Request}
use Rattle.io_rules.specs.Operations.{is_posting}
use Rattle.io_rules.specs.declared.spares.Spares.{Spares}
use Rattle.io_rules.specs.Room.{one_if}
use Rattle.io_rules.specs.Spares.{no_spares, spare_of, without_spare}
use Rattle.io_handlers.specs.declared.staged.Initiating.{Initiating}
use Rattle.io_handlers.specs.declared.staged.Staged.{Staged}
use Rattle.io_handlers.specs.declared.staged.Staged.TheVariants as staged

pub record Initiated (H S : Type 0) : Type 0 where
  -- the calls so far, in order
  pub staged : List (Staged H S)
  -- how many operations it may initiate in all
  pub granted : ℕ
  -- how many it may still
  pub places : ℕ
  -- whether it has initiated none yet
  pub first : Bool
  -- for how many more calls there is room, beside that of its first operation
  pub room : ℕ
  -- for how many there is when a handler begins
  pub most : ℕ
  -- the names that are kept for what it makes
  pub kept : Spares
  -- those that it hasn't used
  pub spares : Spares
  -- whether a call counts from when it has returned
  pub delays : Bool
  -- states of strands that its calls freed and that are forgotten, to be retired
  pub retired : List S

-- the first operation has room of its own
abbrev pub IsRoomFor : Bool → ℕ → Type 0
IsRoomFor first room = (first || nat_lt 0 room) ≡ true

-- one of the granted operations is left, and room for a call
pub record MayInitiate {H S : Type 0} (i : Initiated H S) : Type 0 where
  pub places : 0 < i.places
  pub room : IsRoomFor i.first i.room

abbrev pub MayChange : {H S : Type 0} → Initiated H S → Type 0
MayChange i = 0 < i.room

-- it leaves the other room as it is
abbrev pub room_after : Bool → ℕ → ℕ
room_after true room = room
room_after false room = room - 1

abbrev pub called : {H S : Type 0} → Initiating H → Initiated H S → Initiated H S
called call i = record i {
  staged = i.staged ++ staged.Called call ∷ [];
  places = i.places - 1;
  first = false;
  room = room_after i.first i.room;
}

-- what is made has one of the names that are left, which isn't left then
abbrev pub IsMadeOf : Control → Spares → Type 0
IsMadeOf (control.Make kind name) spares = spare_of kind spares ≡ Some name
IsMadeOf _ spares = Unit {0}

abbrev pub spares_made : Control → Spares → Spares
spares_made (control.Make kind name) spares = without_spare kind spares
spares_made _ spares = spares

abbrev pub changed : {H S : Type 0} → Control → Initiated H S → Initiated H S
changed change i = record i {
  staged = i.staged ++ staged.Changed change ∷ [];
  room = i.room - 1;
  spares = spares_made change i.spares;
}

-- a strand is made under a name that is kept for it
abbrev pub made_strand : {H S : Type 0} → Name → S → Initiated H S → Initiated H S
made_strand name state i = record i {
  staged = i.staged ++ staged.MadeStrand name state ∷ [];
  room = i.room - 1;
  spares = without_spare kind.Strand i.spares;
}

-- so many nanoseconds, at most as many as there are
abbrev pub delay_of : Duration → ℕ
delay_of after = min (as_nanos after) 18446744073709551615

abbrev pub delayed : {H S : Type 0} → Name → ℕ → Initiated H S → Initiated H S
delayed timer after i = record i {
  staged = i.staged ++ staged.ExpiresAfter timer after ∷ [];
  room = i.room - 1;
  delays = true;
}

-- without a cancellation slot, and with a buffer or without
abbrev pub transferring : {H : Type 0} → Lane → Operation → Option (Vec ℕ) → H → Initiating H
transferring lane kind buffer handler =
    record { lane = lane; binding = None; kind = kind; buffer = buffer; handler = handler }

abbrev pub initiating : {H : Type 0} → Lane → Operation → H → Initiating H
initiating lane kind handler = transferring lane kind None handler

abbrev pub new_initiated : {H S : Type 0} → ℕ → Initiated H S
new_initiated most = record {
  staged = [];
  granted = 0;
  places = 0;
  first = false;
  room = 0;
  most = most;
  kept = no_spares;
  spares = no_spares;
  delays = false;
  retired = [];
}

-- a handler begins, and may initiate so many, and make something under these names
abbrev pub renewed : {H S : Type 0} → ℕ → Spares → Initiated H S → Initiated H S
renewed places spares i = record i {
  granted = places;
  places = places;
  first = true;
  room = i.most;
  kept = spares;
  spares = spares;
  delays = false;
}

abbrev pub operations_of : {H S : Type 0} → Staged H S → ℕ
operations_of (staged.Called call) = 1
operations_of (staged.Changed change) = 0
operations_of (staged.ExpiresAfter timer after) = 0
operations_of (staged.MadeStrand name state) = 0

-- how many operations are initiated by these calls
abbrev pub operations_in : {H S : Type 0} → List (Staged H S) → ℕ
operations_in [] = 0
operations_in (call ∷ calls) = operations_of call + operations_in calls

-- a posting, or a wait
abbrev pub is_offered_kind : Operation → Bool
is_offered_kind (operation.Wait timer) = true
is_offered_kind kind = is_posting kind

-- an operation on a stream or a listener: some bytes are read or written, all are written, or a connection is
-- accepted
abbrev pub is_transfer : Operation → Bool
is_transfer (operation.ReadSome stream size) = true
is_transfer (operation.WriteSome stream size) = true
is_transfer (operation.WriteAll stream size) = true
is_transfer (operation.Accept listener) = true
is_transfer _ = false

-- which operations a handler may initiate
abbrev pub is_initiated : Operation → Bool
is_initiated kind = is_transfer kind || is_offered_kind kind

-- without a cancellation slot
pub record IsOfferedCall {H : Type 0} (call : Initiating H) : Type 0 where
  pub offered : is_initiated call.kind ≡ true
  pub unbound : call.binding ≡ None

abbrev pub is_timer : Kind → Bool
is_timer kind.Timer = true
is_timer _ = false

-- a strand, a timer, a stream or a listener
abbrev pub is_freed : Kind → Bool
is_freed kind.Strand = true
is_freed kind.Timer = true
is_freed kind.Stream = true
is_freed kind.Listener = true
is_freed _ = false

-- a stop, what is done with a timer, which is made, gets a new expiry, is cancelled or freed, or that a strand is
-- freed, or a stream or a listener closed
abbrev pub is_offered_change : Control → Bool
is_offered_change (control.Make of name) = is_timer of
is_offered_change control.Stop = true
is_offered_change (control.Expires timer at) = true
is_offered_change (control.Cancel timer) = true
is_offered_change (control.CancelOne timer) = true
is_offered_change (control.Free of name) = is_freed of
is_offered_change _ = false

abbrev pub IsOffered : {H S : Type 0} → Staged H S → Type 0
IsOffered (staged.Called call) = IsOfferedCall call
IsOffered (staged.Changed change) = is_offered_change change ≡ true
IsOffered (staged.ExpiresAfter timer after) = Unit {0}
IsOffered (staged.MadeStrand name state) = Unit {0}

abbrev pub AreOffered : {H S : Type 0} → List (Staged H S) → Type 0
AreOffered [] = Unit {0}
AreOffered (call ∷ calls) = IsOffered call × AreOffered calls

-- what this call makes has one of these names
abbrev pub IsMade : {H S : Type 0} → Staged H S → Spares → Type 0
IsMade (staged.Changed change) kept = IsMadeOf change kept
IsMade (staged.MadeStrand name state) kept = kept.strand ≡ Some name
IsMade _ kept = Unit {0}

-- those that are left behind it
abbrev pub left_by : {H S : Type 0} → Staged H S → Spares → Spares
left_by (staged.Changed change) kept = spares_made change kept
left_by (staged.MadeStrand name state) kept = without_spare kind.Strand kept
left_by _ kept = kept

-- likewise of these calls, one after another
abbrev pub AreMade : {H S : Type 0} → List (Staged H S) → Spares → Type 0
AreMade [] kept = Unit {0}
AreMade (call ∷ calls) kept = IsMade call kept × AreMade calls (left_by call kept)

abbrev pub left_by_all : {H S : Type 0} → List (Staged H S) → Spares → Spares
left_by_all [] kept = kept
left_by_all (call ∷ calls) kept = left_by_all calls (left_by call kept)

-- all calls have taken effect, and these states are to be retired
abbrev pub with_none : {H S : Type 0} → List S → Initiated H S → Initiated H S
with_none states i = record i { staged = []; kept = left_by_all i.staged i.kept; retired = states }

-- the state of a strand that was freed is to be retired
abbrev pub retiring : {H S : Type 0} → S → Initiated H S → Initiated H S
retiring state i = record i { retired = i.retired ++ state ∷ [] }

-- a state for each call that was taken, and for each that may still be made
abbrev pub states_in : {H S : Type 0} → Initiated H S → ℕ
states_in i = length i.retired + length i.staged + i.room + one_if i.first

-- there is room for one more
abbrev pub MayRetire : {H S : Type 0} → Initiated H S → Type 0
MayRetire i = states_in i ≤ i.most

-- the memory of this capacity has room for all that it may still take, here and when it begins anew; that of the
-- other one for a state that is to be retired for each call
pub record HasRoom {H S : Type 0} (capacity states : ℕ) (i : Initiated H S) : Type 0 where
  pub calls : states_in i ≤ i.most + 1
  pub anew : i.most + 1 ≤ capacity
  pub retiring : i.most + 1 ≤ states
  pub granted : operations_in i.staged + i.places ≤ i.granted
  pub offered : AreOffered i.staged
  pub made : AreMade i.staged i.kept
  pub left : i.spares ≡ left_by_all i.staged i.kept

-- the request of such a call
abbrev pub request_of : {H : Type 0} → (H → Marks) → Initiating H → Request
request_of marks call = record {
  lane = call.lane;
  binding = call.binding;
  kind = call.kind;
  marks = marks call.handler;
}

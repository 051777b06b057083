-- System calls on sockets (Asio reference, basic_stream_socket, basic_socket_acceptor; Overview, "The
-- Proactor Design Pattern"): for the first operation of a side, one at a time for a socket. What it
-- gave counts before a cancellation that came meanwhile.
use Rattle.std.specs.Prelude.{◌≡◌, ◌<◌, ℕ, ◌+◌, ◌-◌, ◌==◌, ◌&&◌, nat_le, nat_lt, Bool, true, false, not, List, [], ◌∷◌, ◌++◌, Option, Some, None, if◌then◌else◌}
use Rattle.asio_types.specs.declared.code.Code.{Code}
use Rattle.asio_types.specs.declared.code.Code.TheVariants as code
use Rattle.io_rules.specs.declared.gave.Gave.{Gave}
use Rattle.io_rules.specs.declared.gave.Gave.TheVariants as gave
use Rattle.io_rules.specs.declared.name.Name.{Name}
use Rattle.io_rules.specs.declared.op.Phase.TheVariants as phase
use Rattle.io_rules.specs.declared.operation.Operation.{Operation}
use Rattle.io_rules.specs.declared.operation.Operation.TheVariants as operation
use Rattle.io_rules.specs.declared.operation.Side.{Side}
use Rattle.io_rules.specs.declared.operation.Side.TheVariants as side
use Rattle.io_rules.specs.declared.place.Life.TheVariants as life
use Rattle.io_rules.specs.declared.place.Place.{Place}
use Rattle.io_rules.specs.Cancelling.{is_out_for}
use Rattle.io_rules.specs.Names.{Names, is_alive, is_current, is_free, is_leaving, with_freed}
use Rattle.io_rules.specs.Operations.{is_accept, is_connect}
use Rattle.io_rules.specs.Ops.{is_pending, is_settled, is_untouched, phase_changed_of}
use Rattle.io_rules.specs.Serving.{first_of, is_none_of, op_of, with_held}
use Rattle.io_rules.specs.Spares.{with_life_of}
use Rattle.io_rules.specs.State.{ContextState, Op, Phase, StreamState, new_stream, stream_at, with_stream}

-- its first operation
abbrev pub head_of : ContextState → Name → Side → Option Op
head_of s name side = op_of s.ops (first_of side (stream_at s.streams name))

-- all that the stream holds was searched for its delimiter
abbrev pub is_searched : StreamState → Operation → Bool
is_searched s (operation.ReadUntil stream max) = s.searched == s.held
is_searched s kind = true

-- accepts and connects make connections, and all others use one
abbrev pub is_linked_for : StreamState → Operation → Bool
is_linked_for s (operation.Accept listener) = s.listener
is_linked_for s (operation.Connect stream) = not s.linked
is_linked_for s kind = s.linked && is_none_of s.connects

abbrev pub may_be_tried : StreamState → Option Op → Bool
may_be_tried s None = false
may_be_tried s (Some op) =
    is_untouched op.phase && (is_linked_for s op.kind && is_searched s op.kind)

abbrev pub is_accept_of : Option Op → Bool
is_accept_of None = false
is_accept_of (Some op) = is_accept op.kind

-- an accept has a place for what it makes
abbrev pub MayReserve : Names → Bool → Option Name → Type 0
MayReserve names true None = ⊥
MayReserve names true (Some name) = is_free names.streams name ≡ true
MayReserve names false reserved = reserved ≡ None

pub record MayTry (s : ContextState) (stream : Name) (side : Side) (reserved : Option Name) :
    Type 0 where
  pub going : s.finishing ≡ false
  pub allowed : s.stopped ≡ false
  pub is_open : is_alive s.names.streams stream ≡ true
  pub back : (stream_at s.streams stream).out ≡ None
  pub head : may_be_tried (stream_at s.streams stream) (head_of s stream side) ≡ true
  pub place : MayReserve s.names (is_accept_of (head_of s stream side)) reserved

abbrev pub place_kept : Option ℕ → Option Name → List Place → List Place
place_kept None reserved places = places
place_kept (Some op) reserved places = with_life_of (life.Kept op) reserved places

abbrev pub after_try : Name → Side → Option Name → ContextState → ContextState
after_try stream side reserved s = record s {
  names = record s.names {
    streams =
        place_kept (first_of side (stream_at s.streams stream)) reserved s.names.streams;
  };
  streams = with_stream stream
      (record (stream_at s.streams stream) { out = Some side; reserved = reserved }) s.streams;
}

-- how a read, a write, or the making of a connection may fail
abbrev pub is_read_error : Code → Bool
is_read_error code.Eof = true
is_read_error code.Reset = true
is_read_error _ = false

abbrev pub is_write_error : Code → Bool
is_write_error code.Broken = true
is_write_error code.Reset = true
is_write_error _ = false

abbrev pub is_link_error : Code → Bool
is_link_error code.Reset = true
is_link_error _ = false

abbrev pub fits_error : Operation → Code → Bool
fits_error (operation.ReadSome stream size) given = is_read_error given
fits_error (operation.ReadAll stream size) given = is_read_error given
fits_error (operation.ReadUntil stream max) given = is_read_error given
fits_error (operation.WriteSome stream size) given = is_write_error given
fits_error (operation.WriteAll stream size) given = is_write_error given
fits_error (operation.Accept listener) given = is_link_error given
fits_error (operation.Connect stream) given = is_link_error given
fits_error _ given = false

-- so many bytes of those that are still asked for, at least one
abbrev pub fits_size : Operation → ℕ → ℕ → Bool
fits_size (operation.ReadSome stream size) moved came = nat_lt 0 came && nat_le came size
fits_size (operation.ReadAll stream size) moved came = nat_lt 0 came && nat_le (moved + came) size
fits_size (operation.WriteSome stream size) moved came = nat_lt 0 came && nat_le came size
fits_size (operation.WriteAll stream size) moved came =
    nat_lt 0 came && nat_le (moved + came) size
fits_size _ moved came = false

-- a first delimiter ends among the bytes that are there, behind those that were searched
abbrev pub fits_end : ℕ → ℕ → ℕ → Option ℕ → Bool
fits_end searched there max None = true
fits_end searched there max (Some end) =
    nat_lt searched end && (nat_le end there && nat_le end max)

-- a stream holds no more than its limit
abbrev pub fits_found : ℕ → StreamState → Operation → ℕ → Option ℕ → Bool
fits_found limit s (operation.ReadUntil stream max) came end =
    nat_lt 0 came && (nat_le (s.held + came) limit && fits_end s.held (s.held + came) max end)
fits_found limit s _ came end = false

abbrev pub moved_by : Phase → ℕ
moved_by (phase.Pending moved cancelled) = moved
moved_by _ = 0

-- a system call for this operation may give this
abbrev pub fits : ℕ → StreamState → Op → Gave → Bool
fits limit s op gave.WouldBlock = true
fits limit s op (gave.Moved size) = fits_size op.kind (moved_by op.phase) size
fits limit s op (gave.Found came end) = fits_found limit s op.kind came end
fits limit s op (gave.Failed given) = fits_error op.kind given
fits limit s op gave.Made = is_accept op.kind
fits limit s op gave.Linked = is_connect op.kind

abbrev pub fits_head : ℕ → StreamState → Option Op → Gave → Bool
fits_head limit s None given = false
fits_head limit s (Some op) given = is_pending op.phase && fits limit s op given

-- its socket is back from the system call for this side; it may have been closed meanwhile
pub record MayReturn (s : ContextState) (stream : Name) (side : Side) (given : Gave) : Type 0 where
  pub going : s.finishing ≡ false
  pub named : is_current s.names.streams stream ≡ true
  pub out : (stream_at s.streams stream).out ≡ Some side
  pub fit :
      fits_head s.limits.held (stream_at s.streams stream) (head_of s stream side) given ≡ true

-- it goes on, unless it was cancelled
abbrev pub goes_on : ℕ → Bool → Phase
goes_on moved false = phase.Pending moved false
goes_on moved true = phase.Settled code.Aborted moved

-- it has all that it asked for, or goes on
abbrev pub moved_all : ℕ → ℕ → Bool → Phase
moved_all size moved cancelled =
    if nat_le size moved then phase.Settled code.Ok size else goes_on moved cancelled

abbrev pub phase_moved : Operation → ℕ → ℕ → Bool → Phase
phase_moved (operation.ReadAll stream size) moved came cancelled =
    moved_all size (moved + came) cancelled
phase_moved (operation.WriteAll stream size) moved came cancelled =
    moved_all size (moved + came) cancelled
phase_moved _ moved came cancelled = phase.Settled code.Ok came

-- the delimiter was found, or there are as many bytes as the read may take, or it goes on
abbrev pub phase_searched : Operation → ℕ → Option ℕ → Bool → Phase
phase_searched kind there (Some end) cancelled = phase.Settled code.Ok end
phase_searched (operation.ReadUntil stream max) there None cancelled =
    if nat_le max there then phase.Settled code.NotFound 0 else goes_on 0 cancelled
phase_searched _ there None cancelled = goes_on 0 cancelled

abbrev pub phase_given : StreamState → Operation → Gave → ℕ → Bool → Phase
phase_given s kind gave.WouldBlock moved cancelled = goes_on moved cancelled
phase_given s kind (gave.Moved came) moved cancelled = phase_moved kind moved came cancelled
phase_given s kind (gave.Found came end) moved cancelled =
    phase_searched kind (s.held + came) end cancelled
phase_given s kind (gave.Failed given) moved cancelled = phase.Settled given moved
phase_given s kind gave.Made moved cancelled = phase.Settled code.Ok 0
phase_given s kind gave.Linked moved cancelled = phase.Settled code.Ok 0

-- what a system call makes of its operation
abbrev pub phase_back : StreamState → Gave → Operation → Phase → Phase
phase_back s given kind (phase.Pending moved cancelled) = phase_given s kind given moved cancelled
phase_back s given kind other = other

abbrev pub settled_back : StreamState → Gave → Option Op → List ℕ
settled_back s given None = []
settled_back s given (Some op) =
    if is_pending op.phase && is_settled (phase_back s given op.kind op.phase) then op.number ∷ []
    else []

-- so many bytes are left behind a delimiter, or all of these hold none
abbrev pub held_behind : ℕ → Option ℕ → StreamState → StreamState
held_behind there None s = with_held there there s
held_behind there (Some end) s = with_held (there - end) 0 s

abbrev pub stream_given : Gave → StreamState → StreamState
stream_given (gave.Found came end) s = held_behind (s.held + came) end s
stream_given gave.Linked s = record s { linked = true }
stream_given _ s = s

abbrev pub is_made : Gave → Bool
is_made gave.Made = true
is_made _ = false

-- the socket is in again
abbrev pub stream_back : Gave → StreamState → StreamState
stream_back given s = record (stream_given given s) { out = None; reserved = None }

-- what an accept made is a stream; else its place is free again
abbrev pub place_made : Gave → Option Name → List Place → List Place
place_made given reserved places =
    with_life_of (if is_made given then life.Alive else life.Free) reserved places

abbrev pub stream_made : Gave → Option Name → List StreamState → List StreamState
stream_made given None streams = streams
stream_made given (Some name) streams =
    if is_made given then with_stream name (record new_stream { linked = true }) streams
    else streams

-- the place of a stream that was closed is free
abbrev pub place_closed : Bool → Name → List Place → List Place
place_closed false stream places = places
place_closed true stream places = with_freed stream places

abbrev pub stream_closed : Bool → Name → List StreamState → List StreamState
stream_closed false stream streams = streams
stream_closed true stream streams = with_stream stream new_stream streams

abbrev pub after_back : Name → Side → Gave → ContextState → ContextState
after_back name side given s =
    let stream = stream_at s.streams name in
    let closed = is_leaving s.names.streams name in
    record s {
      ops = phase_changed_of (first_of side stream)
          (λ op. phase_back stream given op.kind op.phase) s.ops;
      settled = s.settled ++ settled_back stream given (head_of s name side);
      names = record s.names {
        streams = place_closed closed name (place_made given stream.reserved s.names.streams);
      };
      streams = stream_closed closed name
          (stream_made given stream.reserved (with_stream name (stream_back given stream) s.streams));
    }

abbrev pub max_in : Operation → ℕ
max_in (operation.ReadUntil stream max) = max
max_in _ = 0

abbrev pub max_of : Option Op → ℕ
max_of None = 0
max_of (Some op) = max_in op.kind

abbrev pub is_until : Operation → Bool
is_until (operation.ReadUntil stream max) = true
is_until _ = false

abbrev pub is_search : Option Op → Bool
is_search None = false
is_search (Some op) = is_pending op.phase && is_until op.kind

-- what a stream holds is searched for the delimiter of its first read, where it wasn't
pub record MaySearch (s : ContextState) (stream : Name) (end : Option ℕ) : Type 0 where
  pub going : s.finishing ≡ false
  pub is_open : is_alive s.names.streams stream ≡ true
  pub back : is_out_for side.Read (stream_at s.streams stream).out ≡ false
  pub read : is_search (head_of s stream side.Read) ≡ true
  pub more : (stream_at s.streams stream).searched < (stream_at s.streams stream).held
  pub fit :
      fits_end (stream_at s.streams stream).searched (stream_at s.streams stream).held
      (max_of (head_of s stream side.Read)) end ≡ true

abbrev pub phase_found : StreamState → Option ℕ → Operation → Phase → Phase
phase_found s end kind (phase.Pending moved cancelled) = phase_searched kind s.held end cancelled
phase_found s end kind other = other

abbrev pub settled_found : StreamState → Option ℕ → Option Op → List ℕ
settled_found s end None = []
settled_found s end (Some op) =
    if is_pending op.phase && is_settled (phase_found s end op.kind op.phase) then op.number ∷ []
    else []

abbrev pub after_search : Name → Option ℕ → ContextState → ContextState
after_search name end s =
    let stream = stream_at s.streams name in
    record s {
      ops = phase_changed_of (first_of side.Read stream)
          (λ op. phase_found stream end op.kind op.phase) s.ops;
      settled = s.settled ++ settled_found stream end (head_of s name side.Read);
      streams = with_stream name (held_behind stream.held end stream) s.streams;
    }

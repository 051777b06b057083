-- A connection of a client: its stream, and the timer that watches it (Asio reference, basic_stream_socket::close,
-- basic_waitable_timer::expires_at).
use Rattle.std.specs.Prelude.{◌≡◌, ◌+◌, ℕ, min, nat_lt, if◌then◌else◌}
use Rattle.io_rules.specs.declared.control.Control.TheVariants as control
use Rattle.io_rules.specs.declared.name.Kind.TheVariants as kind
use Rattle.io_rules.specs.declared.name.Lane.TheVariants as lane
use Rattle.io_rules.specs.declared.name.Name.{Name}
use Rattle.io_rules.specs.declared.operation.Operation.TheVariants as operation
use Rattle.io_handlers.specs.declared.staged.Initiating.{Initiating}
use Rattle.io_handlers.specs.Initiated.{Initiated, MayInitiate, called, changed, initiating}
use Rattle.chat_handlers.specs.declared.chat.Chat.{Chat}
use Rattle.chat_handlers.specs.declared.link.Link.{Link}
use Rattle.chat_handlers.specs.declared.room.Room.{Room}

-- a stream is closed, where there is room for the call
abbrev pub closed : Name → Initiated Chat Room → Initiated Chat Room
closed stream io = if nat_lt 0 io.room then changed (control.Free kind.Stream stream) io else io

-- likewise a timer is destroyed
abbrev pub freed : Name → Initiated Chat Room → Initiated Chat Room
freed timer io = if nat_lt 0 io.room then changed (control.Free kind.Timer timer) io else io

-- a connection is closed
abbrev pub parted : Link → Initiated Chat Room → Initiated Chat Room
parted link io = freed link.timer (closed link.stream io)

-- a timer expires at this time
abbrev pub set : Name → ℕ → Initiated Chat Room → Initiated Chat Room
set timer at io = if nat_lt 0 io.room then changed (control.Expires timer at) io else io

-- the time that is so many nanoseconds later
abbrev pub until : ℕ → ℕ → ℕ
until now later = min (now + later) 18446744073709551615

-- it is initiated where there is a place for it; else nothing is
pub record Initiates (call : Initiating Chat) (io later : Initiated Chat Room) : Type 0 where
  pub goes : MayInitiate io → later ≡ called call io
  pub none : ¬ MayInitiate io → later ≡ io

-- likewise, or the connection is closed
pub record GoesOn (link : Link) (call : Initiating Chat) (io later : Initiated Chat Room) : Type 0 where
  pub goes : MayInitiate io → later ≡ called call io
  pub ends : ¬ MayInitiate io → later ≡ parted link io

-- a handler goes to the strand of a room
abbrev pub posted : Name → Chat → Initiating Chat
posted room handler = initiating (lane.Strand room) operation.Post handler

-- Clients are let go that are silent for too long (Asio reference, basic_waitable_timer::async_wait). A client's timer is
-- waited for on the strand of a room, which looks whether the client is its member.
use Rattle.std.specs.Prelude.{◌≡◌, ◌<◌, ℕ, Option, Some, None, List}
use Rattle.asio_types.specs.declared.code.Code.{Code}
use Rattle.asio_types.specs.declared.code.Code.TheVariants as code
use Rattle.io_rules.specs.declared.name.Lane.TheVariants as lane
use Rattle.io_rules.specs.declared.name.Name.{Name}
use Rattle.io_rules.specs.declared.operation.Operation.TheVariants as operation
use Rattle.io_handlers.specs.declared.staged.Initiating.{Initiating}
use Rattle.io_handlers.specs.Initiated.{Initiated, initiating}
use Rattle.chat_handlers.specs.declared.chat.Chat.{Chat}
use Rattle.chat_handlers.specs.declared.chat.Chat.TheVariants as chat
use Rattle.chat_handlers.specs.declared.link.Link.{Link}
use Rattle.chat_handlers.specs.declared.room.Member.{Member}
use Rattle.chat_handlers.specs.declared.room.Room.{Room}
use Rattle.chat_handlers.specs.Links.{GoesOn, parted, posted, set}
use Rattle.chat_handlers.specs.Rooms.{member_of}

-- a wait for a client's timer, on the strand of a room
abbrev pub idling : Name → Link → Initiating Chat
idling room link = initiating (lane.Strand room) (operation.Wait link.timer) (chat.Idle room link)

-- the timer expires at this time and is waited for
abbrev pub Watches : Name → Link → ℕ → Initiated Chat Room → Initiated Chat Room → Type 0
Watches room link at io later = GoesOn link (idling room link) (set link.timer at io) later

-- a member that is kept for longer is watched on; one that isn't is let go
pub record IsKeptOn (room : Name) (link : Link) (now kept : ℕ) (io later : Initiated Chat Room) : Type 0 where
  pub watches : now < kept → Watches room link kept io later
  pub parts : ¬ now < kept → later ≡ parted link io

-- a room that doesn't have it as its member lets the next one look; who is a member of none is let go
abbrev pub LooksFor : Option Member → Option Name → Name → Link → ℕ → Initiated Chat Room → Initiated Chat Room → Type 0
LooksFor (Some member) next room link now io later = IsKeptOn room link now member.until io later
LooksFor None (Some next) room link now io later = GoesOn link (posted next (chat.Idle next link)) io later
LooksFor None None room link now io later = later ≡ parted link io

-- a client's timer has expired, or is destroyed with the connection
abbrev pub WaitsOn : Code → List Member → Option Name → Name → Link → ℕ → Initiated Chat Room → Initiated Chat Room → Type 0
WaitsOn code.Ok members next room link now io later = LooksFor (member_of link.stream members) next room link now io later
WaitsOn given members next room link now io later = later ≡ io

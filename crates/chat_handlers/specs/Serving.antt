-- What a room does on its strand, whose handlers never execute at the same time (Asio reference, strand).
use Rattle.std.specs.Prelude.{◌≡◌, ◌+◌, ℕ, Bool, true, false, min, nat_lt, Option, Some, None, List, [], ◌∷◌, ◌++◌, length, map}
use Rattle.std.specs.Global.{Vec}
use Rattle.asio_types.specs.declared.code.Code.{Code}
use Rattle.asio_types.specs.declared.code.Code.TheVariants as code
use Rattle.io_rules.specs.declared.name.Name.{Name}
use Rattle.io_handlers.specs.declared.completion.Completion.{Completion}
use Rattle.io_handlers.specs.Initiated.{Initiated}
use Rattle.chat_handlers.specs.declared.chat.Chat.{Chat}
use Rattle.chat_handlers.specs.declared.chat.Chat.TheVariants as chat
use Rattle.chat_handlers.specs.declared.link.Link.{Link}
use Rattle.chat_handlers.specs.declared.reading.Speaker.{Speaker}
use Rattle.chat_handlers.specs.declared.room.Member.{Member}
use Rattle.chat_handlers.specs.declared.room.Room.{Room}
use Rattle.chat_handlers.specs.Chats.{MayRead, ReadsOn, Refuses, full_room, is_long, long_line, no_room}
use Rattle.chat_handlers.specs.Links.{GoesOn, closed, parted, posted}
use Rattle.chat_handlers.specs.Rooms.{HasMembers, has_member, most_members, new_member, one_less, without}
use Rattle.chat_handlers.specs.Telling.{Told}
use Rattle.chat_handlers.specs.Texts.{left_line}
use Rattle.chat_handlers.specs.Watching.{WaitsOn}

-- these members of a room are told this text; who stays is a member then, and those whom memory was refused are counted
pub record Tells (room : Name) (text : List ℕ) (members : List Member) (io later : Initiated Chat Room)
    (old new : Room) : Type 0 where
  pub left : List Member
  pub refused : ℕ
  pub told : Told room text io members later left refused
  pub has : HasMembers old new left (min (old.refused + refused) 18446744073709551615)

-- what is read of a member, and then the room tells this text
pub record ReadsAndTells (speaker : Speaker) (buffer : Vec ℕ) (text : List ℕ) (members : List Member)
    (io later : Initiated Chat Room) (old new : Room) : Type 0 where
  pub behind : Initiated Chat Room
  pub reads : ReadsOn speaker buffer io behind
  pub tells : Tells speaker.room text members behind later old new

-- nothing changes but what is initiated
pub record OnlyRefuses (link : Link) (why : List ℕ) (io later : Initiated Chat Room) (old new : Room) : Type 0 where
  pub refuses : Refuses link why io later
  pub same : HasMembers old new old.members.items old.refused

-- a client joins behind the others, and all hear of it; or the room is full, or there is no memory for one more
pub data Admits (speaker : Speaker) (buffer text : Vec ℕ) (now : ℕ) (io later : Initiated Chat Room) (old new : Room) : Type 0 where
  admits : nat_lt (length old.members.items) most_members ≡ true →
      ReadsAndTells speaker buffer text.items (old.members.items ++ new_member speaker.link.stream now ∷ []) io later old new →
      Admits speaker buffer text now io later old new
  refuses : nat_lt (length old.members.items) most_members ≡ false → OnlyRefuses speaker.link full_room io later old new →
      Admits speaker buffer text now io later old new
  closes : later ≡ parted speaker.link io → HasMembers old new old.members.items old.refused →
      Admits speaker buffer text now io later old new

-- a client whom this room has no place for asks the next one, if there is one
abbrev pub AsksNext : Option Name → Vec ℕ → Speaker → Vec ℕ → Vec ℕ → Initiated Chat Room → Initiated Chat Room → Type 0
AsksNext None word speaker buffer text io later = Refuses speaker.link no_room io later
AsksNext (Some room) word speaker buffer text io later =
    GoesOn speaker.link (posted room (chat.Joins word (record speaker { room = room }) buffer text)) io later

-- a client asks for the room of this word
pub data Joins (word : Vec ℕ) (speaker : Speaker) (buffer text : Vec ℕ) (now : ℕ) (io later : Initiated Chat Room)
    (old new : Room) : Type 0 where
  here : old.word.items ≡ word.items → Admits speaker buffer text now io later old new →
      Joins word speaker buffer text now io later old new
  elsewhere : ¬ (old.word.items ≡ word.items) → AsksNext old.next word speaker buffer text io later →
      HasMembers old new old.members.items old.refused → Joins word speaker buffer text now io later old new

abbrev pub EndsIf : Bool → Link → Initiated Chat Room → Initiated Chat Room → Type 0
EndsIf true link io later = Refuses link long_line io later
EndsIf false link io later = later ≡ parted link io

-- the members hear that one has left; without memory they don't
pub data TellsLeft (speaker : Speaker) (members : List Member) (io later : Initiated Chat Room) (old new : Room) : Type 0 where
  tells : Tells speaker.room (left_line speaker.name.items) members io later old new →
      TellsLeft speaker members io later old new
  fails : later ≡ io → HasMembers old new members old.refused → TellsLeft speaker members io later old new

-- a member leaves: just it is taken out, its connection ends, and the others hear of it
pub record Parts (speaker : Speaker) (io later : Initiated Chat Room) (old new : Room) : Type 0 where
  pub behind : Initiated Chat Room
  pub ends : EndsIf (is_long speaker) speaker.link io behind
  pub tells : TellsLeft speaker (without speaker.link.stream old.members.items) behind later old new

-- what a member says is told to all, itself too; one that was dropped leaves
abbrev pub SaysIf : Bool → Speaker → Vec ℕ → Vec ℕ → Initiated Chat Room → Initiated Chat Room → Room → Room → Type 0
SaysIf true speaker buffer text io later old new =
    ReadsAndTells speaker buffer text.items old.members.items io later old new
SaysIf false speaker buffer text io later old new = Parts speaker io later old new

-- a write to a member is over: one less is pending, and the member is kept for longer; where it failed, it is dropped
abbrev pub Counts : Name → Code → ℕ → Initiated Chat Room → Initiated Chat Room → Room → Room → Type 0
Counts stream code.Ok now io later old new =
    (later ≡ io) × HasMembers old new (map (one_less stream now) old.members.items) old.refused
Counts stream given now io later old new =
    (later ≡ closed stream io) × HasMembers old new (without stream old.members.items) old.refused

-- what each handler does on the strand of a room
abbrev pub MayServe : Chat → Completion → Room → Room → Initiated Chat Room → Initiated Chat Room → Type 0
MayServe (chat.Joins word speaker buffer text) done old new io later = Joins word speaker buffer text done.now io later old new
MayServe (chat.Says speaker buffer text) done old new io later =
    SaysIf (has_member speaker.link.stream old.members.items) speaker buffer text io later old new
MayServe (chat.Leaves speaker) done old new io later = Parts speaker io later old new
MayServe (chat.Written room stream) done old new io later = Counts stream done.code done.now io later old new
MayServe (chat.Idle room link) done old new io later =
    (new ≡ old) × WaitsOn done.code old.members.items old.next room link done.now io later
MayServe handler done old new io later = (new ≡ old) × MayRead handler done io later

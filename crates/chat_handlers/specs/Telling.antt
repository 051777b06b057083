-- A room tells its members a text: it is written once to each of them, in the order in which they joined, and to nobody else
-- (Asio reference, async_write).
use Rattle.std.specs.Prelude.{◌≡◌, ◌+◌, ℕ, true, nat_lt, Option, Some, None, List, [], ◌∷◌, ◌++◌, length}
use Rattle.std.specs.Global.{Vec}
use Rattle.std.specs.Option.{option_to_list}
use Rattle.io_rules.specs.declared.name.Lane.TheVariants as lane
use Rattle.io_rules.specs.declared.name.Name.{Name}
use Rattle.io_rules.specs.declared.operation.Operation.TheVariants as operation
use Rattle.io_handlers.specs.declared.staged.Initiating.{Initiating}
use Rattle.io_handlers.specs.Initiated.{Initiated, MayInitiate, called, transferring}
use Rattle.chat_handlers.specs.declared.chat.Chat.{Chat}
use Rattle.chat_handlers.specs.declared.chat.Chat.TheVariants as chat
use Rattle.chat_handlers.specs.declared.room.Member.{Member}
use Rattle.chat_handlers.specs.declared.telling.Fate.{Fate}
use Rattle.chat_handlers.specs.declared.telling.Fate.TheVariants as fate
use Rattle.chat_handlers.specs.declared.room.Room.{Room}
use Rattle.chat_handlers.specs.Links.{closed}
use Rattle.chat_handlers.specs.Rooms.{most_pending, one_more}

-- all of a buffer is written to a member of a room, on the room's strand
abbrev pub writing : Name → Name → Vec ℕ → Initiating Chat
writing room stream buffer =
    transferring (lane.Strand room) (operation.WriteAll stream (length buffer.items)) (Some buffer) (chat.Written room stream)

-- this text is written to it, in a buffer of its own
pub record IsWritten (room stream : Name) (text : List ℕ) (io later : Initiated Chat Room) : Type 0 where
  pub buffer : Vec ℕ
  pub copied : buffer.items ≡ text
  pub may : MayInitiate io
  pub is : later ≡ called (writing room stream buffer) io

abbrev pub MayTell : Member → Type 0
MayTell member = nat_lt member.pending most_pending ≡ true

-- the members in turn, in order: the text is written to each once. One is dropped, and its stream closed, if too many writes to
-- it are pending or no place is left, or if memory for it was refused; so many were refused it. Those to whom it is written
-- are left
pub data Told (room : Name) (text : List ℕ) : Initiated Chat Room → List Member → Initiated Chat Room → List Member → ℕ → Type 0 where
  none : {io : Initiated Chat Room} → Told room text io [] io [] 0
  written : {io behind later : Initiated Chat Room} {members left : List Member} {refused : ℕ} → (member : Member) →
      MayTell member → IsWritten room member.stream text io behind →
      Told room text behind members later left refused → Told room text io (member ∷ members) later (one_more member ∷ left) refused
  dropped : {io later : Initiated Chat Room} {members left : List Member} {refused : ℕ} → (member : Member) →
      (MayTell member → ¬ MayInitiate io) →
      Told room text (closed member.stream io) members later left refused → Told room text io (member ∷ members) later left refused
  unfit : {io later : Initiated Chat Room} {members left : List Member} {refused : ℕ} → (member : Member) →
      Told room text (closed member.stream io) members later left refused →
      Told room text io (member ∷ members) later left (1 + refused)

-- one of them
abbrev pub TellsOne : Name → List ℕ → Member → Initiated Chat Room → Initiated Chat Room → Fate → Type 0
TellsOne room text member io later (fate.Told told) =
    (told ≡ one_more member) × MayTell member × IsWritten room member.stream text io later
TellsOne room text member io later fate.Dropped = (MayTell member → ¬ MayInitiate io) × (later ≡ closed member.stream io)
TellsOne room text member io later fate.Refused = later ≡ closed member.stream io

abbrev pub told_of : Fate → Option Member
told_of (fate.Told told) = Some told
told_of _ = None

abbrev pub refused_of : Fate → ℕ
refused_of fate.Refused = 1
refused_of _ = 0

-- the first of them goes behind the others
pub record TellsFirst (room : Name) (text : List ℕ) (first : Member) (rest : List Member) (io later : Initiated Chat Room)
    (members : List Member) (refused : ℕ) : Type 0 where
  pub became : Fate
  pub tells : TellsOne room text first io later became
  pub are : members ≡ rest ++ option_to_list (told_of became)
  pub counted : refused ≡ refused_of became

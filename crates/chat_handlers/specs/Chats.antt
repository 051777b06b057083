-- What the server does for a client on no strand: it reads, and posts to the strand of a room what came (Asio reference,
-- basic_stream_socket::async_read_some, post).
use Rattle.std.specs.Prelude.{◌≡◌, ◌==◌, ◌&&◌, ℕ, Bool, true, false, min, nat_lt, Option, Some, None, List, ◌++◌, length, take, codes, vec_len}
use Rattle.std.specs.Global.{Vec}
use Rattle.std.specs.Option.{is_some}
use Rattle.asio_types.specs.declared.code.Code.{Code}
use Rattle.asio_types.specs.declared.code.Code.TheVariants as code
use Rattle.io_rules.specs.declared.control.Control.TheVariants as control
use Rattle.io_rules.specs.declared.name.Kind.TheVariants as kind
use Rattle.io_rules.specs.declared.name.Lane.TheVariants as lane
use Rattle.io_rules.specs.declared.name.Name.{Name}
use Rattle.io_rules.specs.declared.operation.Operation.TheVariants as operation
use Rattle.io_handlers.specs.declared.completion.Completion.{Completion}
use Rattle.io_handlers.specs.declared.staged.Initiating.{Initiating}
use Rattle.io_handlers.specs.Initiated.{Initiated, changed, initiating, transferring}
use Rattle.chat_handlers.specs.declared.accepting.Service.{Service}
use Rattle.chat_handlers.specs.declared.chat.Chat.{Chat}
use Rattle.chat_handlers.specs.declared.chat.Chat.TheVariants as chat
use Rattle.chat_handlers.specs.declared.link.Link.{Link}
use Rattle.chat_handlers.specs.declared.reading.Caller.{Caller}
use Rattle.chat_handlers.specs.declared.reading.Speaker.{Speaker}
use Rattle.chat_handlers.specs.declared.room.Room.{Room}
use Rattle.chat_handlers.specs.Lines.{BeginsWith, BeginsWithNone, most_line, without_return}
use Rattle.chat_handlers.specs.Links.{GoesOn, Initiates, closed, parted, posted, set, until}
use Rattle.chat_handlers.specs.Watching.{Watches}
use Rattle.chat_handlers.specs.Texts.{IsCut, is_asked, joined_line, name_of, room_of}

-- one read takes at most so many bytes
abbrev pub most_read : ℕ
most_read = 1024

-- a client has so many nanoseconds to join a room, and for so many nothing is accepted once an accept failed
abbrev pub to_join : ℕ
to_join = 60000000000

abbrev pub pause : ℕ
pause = 100000000

abbrev pub reading : Link → Vec ℕ → Chat → Initiating Chat
reading link buffer handler =
    transferring lane.Own (operation.ReadSome link.stream (length buffer.items)) (Some buffer) handler

abbrev pub refusing : Link → Vec ℕ → Initiating Chat
refusing link buffer =
    transferring lane.Own (operation.WriteAll link.stream (length buffer.items)) (Some buffer) (chat.Refused link)

-- a client is told why it is let go; or there is no memory for that, and it is closed
pub data Refuses (link : Link) (why : List ℕ) (io later : Initiated Chat Room) : Type 0 where
  tells : (buffer : Vec ℕ) → buffer.items ≡ why → GoesOn link (refusing link buffer) io later →
      Refuses link why io later
  closes : later ≡ parted link io → Refuses link why io later

abbrev pub no_room : List ℕ
no_room = codes "* no such room\n"

abbrev pub full_room : List ℕ
full_room = codes "* the room is full\n"

abbrev pub long_line : List ℕ
long_line = codes "* the line is too long\n"

-- what came in a buffer
abbrev pub came_in : ℕ → Vec ℕ → List ℕ
came_in size buffer = take (min size (length buffer.items)) buffer.items

-- its room is to hear that it leaves
abbrev pub GoesAway : Speaker → Initiated Chat Room → Initiated Chat Room → Type 0
GoesAway speaker io later = GoesOn speaker.link (posted speaker.room (chat.Leaves speaker)) io later

abbrev pub is_long : Speaker → Bool
is_long speaker = nat_lt most_line (length speaker.kept.items)

abbrev pub ReadsUnless : Bool → Speaker → Vec ℕ → Initiated Chat Room → Initiated Chat Room → Type 0
ReadsUnless true speaker buffer io later = GoesAway speaker io later
ReadsUnless false speaker buffer io later = GoesOn speaker.link (reading speaker.link buffer (chat.Came speaker)) io later

-- more is read, unless a line is too long
abbrev pub ReadsOn : Speaker → Vec ℕ → Initiated Chat Room → Initiated Chat Room → Type 0
ReadsOn speaker buffer io later = ReadsUnless (is_long speaker) speaker buffer io later

abbrev pub saying : Speaker → Vec ℕ → Vec ℕ → Initiating Chat
saying speaker buffer text = posted speaker.room (chat.Says speaker buffer text)

abbrev pub PassesUnless : Bool → Speaker → Vec ℕ → Vec ℕ → Initiated Chat Room → Initiated Chat Room → Type 0
PassesUnless true speaker buffer text io later = ReadsOn speaker buffer io later
PassesUnless false speaker buffer text io later = GoesOn speaker.link (saying speaker buffer text) io later

-- these bytes are all that a member's lines, cut anywhere, have come to: the whole ones are said, the rest is kept
pub record IsHeard (speaker heard : Speaker) (came text : List ℕ) : Type 0 where
  pub cut : IsCut speaker.name.items (speaker.kept.items ++ came) text heard.kept.items
  pub same : heard ≡ record speaker { kept = heard.kept }

-- its room is to hear the lines that came, if any; without memory it goes away
pub data Takes (speaker : Speaker) (came : List ℕ) (buffer : Vec ℕ) (io later : Initiated Chat Room) : Type 0 where
  takes : (heard : Speaker) (text : Vec ℕ) → IsHeard speaker heard came text.items →
      PassesUnless (vec_len text == 0) heard buffer text io later → Takes speaker came buffer io later
  fails : GoesAway speaker io later → Takes speaker came buffer io later

-- bytes came from a member, or its end or an error
abbrev pub Hears : Speaker → Code → ℕ → Option (Vec ℕ) → Initiated Chat Room → Initiated Chat Room → Type 0
Hears speaker code.Ok size (Some buffer) io later = Takes speaker (came_in size buffer) buffer io later
Hears speaker given size buffer io later = GoesAway speaker io later

-- a client asks the first room; what is behind its first line is said there, once it has joined
pub record IsAsking (caller : Caller) (name behind text : List ℕ) (speaker : Speaker) : Type 0 where
  pub name_is : speaker.name.items ≡ name
  pub says : List ℕ
  pub cut : IsCut name behind says speaker.kept.items
  pub text_is : text ≡ joined_line name ++ says
  pub room : speaker.room ≡ caller.door
  pub link : speaker.link ≡ caller.link

abbrev pub meeting : Caller → Vec ℕ → Initiating Chat
meeting caller buffer = reading caller.link buffer (chat.Met caller)

abbrev pub WaitsUnless : Bool → Caller → Vec ℕ → Initiated Chat Room → Initiated Chat Room → Type 0
WaitsUnless true caller buffer io later = Refuses caller.link long_line io later
WaitsUnless false caller buffer io later = GoesOn caller.link (meeting caller buffer) io later

-- more of a first line is read, unless it is too long
abbrev pub Waits : Caller → Vec ℕ → Initiated Chat Room → Initiated Chat Room → Type 0
Waits caller buffer io later = WaitsUnless (nat_lt most_line (length caller.kept.items)) caller buffer io later

-- a first line that is whole asks for a room, by its word, or for none; without memory the client is closed
pub data Answers (caller : Caller) (line behind : List ℕ) (buffer : Vec ℕ) (io later : Initiated Chat Room) : Type 0 where
  asks : (word text : Vec ℕ) (speaker : Speaker) → is_asked line ≡ true → word.items ≡ room_of line →
      IsAsking caller (name_of line) behind text.items speaker →
      GoesOn caller.link (posted caller.door (chat.Joins word speaker buffer text)) io later →
      Answers caller line behind buffer io later
  refuses : is_asked line ≡ false → Refuses caller.link no_room io later → Answers caller line behind buffer io later
  fails : is_asked line ≡ true → later ≡ parted caller.link io → Answers caller line behind buffer io later

-- these bytes have come to a first line, or don't yet
pub data Greets (caller : Caller) (bytes : Vec ℕ) (buffer : Vec ℕ) (io later : Initiated Chat Room) : Type 0 where
  answers : (line behind : List ℕ) → BeginsWith bytes.items line behind →
      Answers caller (without_return line) behind buffer io later → Greets caller bytes buffer io later
  waits : BeginsWithNone bytes.items → Waits (record caller { kept = bytes }) buffer io later →
      Greets caller bytes buffer io later

-- they are all that has come; or there is no memory for them, and the client is closed
pub data Meets (caller : Caller) (came : List ℕ) (buffer : Vec ℕ) (io later : Initiated Chat Room) : Type 0 where
  greets : (bytes : Vec ℕ) → bytes.items ≡ caller.kept.items ++ came → Greets caller bytes buffer io later →
      Meets caller came buffer io later
  fails : later ≡ parted caller.link io → Meets caller came buffer io later

-- bytes of a first line came, or its end or an error
abbrev pub MeetsIf : Caller → Code → ℕ → Option (Vec ℕ) → Initiated Chat Room → Initiated Chat Room → Type 0
MeetsIf caller code.Ok size (Some buffer) io later = Meets caller (came_in size buffer) buffer io later
MeetsIf caller given size buffer io later = later ≡ parted caller.link io

-- its first line is read, or there is no memory for it and it is closed
pub data ReadsFirst (door : Name) (link : Link) (io later : Initiated Chat Room) : Type 0 where
  reads : (caller : Caller) (buffer : Vec ℕ) → vec_len buffer ≡ most_read → vec_len caller.kept ≡ 0 →
      caller.door ≡ door → caller.link ≡ link → GoesOn link (meeting caller buffer) io later → ReadsFirst door link io later
  parts : later ≡ parted link io → ReadsFirst door link io later

-- it is watched from the first room, and then read
pub record Starts (door : Name) (link : Link) (at : ℕ) (io later : Initiated Chat Room) : Type 0 where
  pub behind : Initiated Chat Room
  pub watches : Watches door link at io behind
  pub reads : ReadsFirst door link behind later

-- a new connection gets a timer and starts; it is closed where no timer is left
pub data Begins (door stream : Name) (now : ℕ) (io later : Initiated Chat Room) : Type 0 where
  starts : (timer : Name) → io.spares.timer ≡ Some timer →
      Starts door (record { stream = stream; timer = timer }) (until now to_join) (changed (control.Make kind.Timer timer) io)
      later → Begins door stream now io later
  closes : (nat_lt 0 io.room && is_some io.spares.timer) ≡ false → later ≡ closed stream io → Begins door stream now io later

abbrev pub BeginsIf : Name → Option Name → ℕ → Initiated Chat Room → Initiated Chat Room → Type 0
BeginsIf door None now io later = later ≡ io
BeginsIf door (Some stream) now io later = Begins door stream now io later

abbrev pub accepting : Service → Initiating Chat
accepting service = initiating lane.Own (operation.Accept service.listener) (chat.Accepted service)

abbrev pub AcceptsNext : Service → Initiated Chat Room → Initiated Chat Room → Type 0
AcceptsNext service io later = Initiates (accepting service) io later

-- the next connection is accepted, and what was accepted begins
pub record Accepts (service : Service) (made : Option Name) (now : ℕ) (io later : Initiated Chat Room) : Type 0 where
  pub behind : Initiated Chat Room
  pub next : AcceptsNext service io behind
  pub begins : BeginsIf service.door made now behind later

-- a wait for the listener's timer
abbrev pub resting : Service → Initiating Chat
resting service = initiating lane.Own (operation.Wait service.timer) (chat.Rested service)

-- the timer of the listener expires after a pause, and nothing but a wait for it is initiated
abbrev pub Rests : Service → ℕ → Initiated Chat Room → Initiated Chat Room → Type 0
Rests service now io later = Initiates (resting service) (set service.timer (until now pause) io) later

-- an accept completed: a listener that is closed accepts no more, and one whose accept failed, as for want of descriptors,
-- rests before it accepts again
abbrev pub AcceptsIf : Service → Code → Option Name → ℕ → Initiated Chat Room → Initiated Chat Room → Type 0
AcceptsIf service code.Ok made now io later = Accepts service made now io later
AcceptsIf service code.Aborted made now io later = later ≡ io
AcceptsIf service code.Bad made now io later = later ≡ io
AcceptsIf service given made now io later = Rests service now io later

-- what each handler does on no strand
abbrev pub MayRead : Chat → Completion → Initiated Chat Room → Initiated Chat Room → Type 0
MayRead (chat.Accepted service) done io later = AcceptsIf service done.code done.made done.now io later
MayRead (chat.Rested service) done io later = AcceptsNext service io later
MayRead (chat.Met caller) done io later = MeetsIf caller done.code done.size done.buffer io later
MayRead (chat.Joins word speaker buffer text) done io later = later ≡ parted speaker.link io
MayRead (chat.Came speaker) done io later = Hears speaker done.code done.size done.buffer io later
MayRead (chat.Says speaker buffer text) done io later = later ≡ parted speaker.link io
MayRead (chat.Leaves speaker) done io later = later ≡ parted speaker.link io
MayRead (chat.Written room stream) done io later = later ≡ closed stream io
MayRead (chat.Idle room link) done io later = later ≡ parted link io
MayRead (chat.Refused link) done io later = later ≡ parted link io

-- What the server does for a connection: it reads, feeds what came to the connection, and writes the
-- answers that are owed (Asio reference, basic_stream_socket::async_read_some, async_write); a head that
-- doesn't come whole in time is answered 408 (RFC 9110, section 15.5.9).
use Rattle.std.specs.Prelude.{◌≡◌, ◌&&◌, ◌<◌, ℕ, Bool, true, false, List, [], min, nat_lt, take, Option, Some, length, vec_len}
use Rattle.std.specs.Global.{Vec}
use Rattle.std.specs.Option.{is_some}
use Rattle.asio_types.specs.declared.code.Code.{Code}
use Rattle.asio_types.specs.declared.code.Code.TheVariants as code
use Rattle.io_rules.specs.declared.control.Control.TheVariants as control
use Rattle.io_rules.specs.declared.name.Kind.TheVariants as kind
use Rattle.io_rules.specs.declared.name.Name.{Name}
use Rattle.io_rules.specs.declared.operation.Operation.TheVariants as operation
use Rattle.io_handlers.specs.declared.completion.Completion.{Completion}
use Rattle.io_handlers.specs.declared.staged.Initiating.{Initiating}
use Rattle.io_handlers.specs.Initiated.{Initiated, MayInitiate, called, changed, initiating, transferring}
use Rattle.http_handlers.specs.declared.answer.Status.TheVariants as status
use Rattle.http_handlers.specs.declared.http.Exchange.{Exchange}
use Rattle.http_handlers.specs.declared.http.Http.{Http}
use Rattle.http_handlers.specs.declared.http.Http.TheVariants as http
use Rattle.http_handlers.specs.declared.serving.Activity.{Activity}
use Rattle.http_handlers.specs.declared.serving.Link.{Link}
use Rattle.http_handlers.specs.declared.serving.Service.{Service}
use Rattle.http_handlers.specs.Accepting.{AcceptsAgain, AcceptsBy, closed, freed, lane_of, set, until}
use Rattle.http_handlers.specs.Answers.{printed, refused}
use Rattle.http_handlers.specs.Connections.{Feeds, Left, is_begun, new_left}

-- how many bytes one read takes at most
abbrev pub most_read : ℕ
most_read = 4096

-- a connection is closed
abbrev pub parted : Link → Initiated Http Activity → Initiated Http Activity
parted link io = freed link.timer (closed link.stream io)

-- its timer expires at this time
abbrev pub set_link : Link → ℕ → Initiated Http Activity → Initiated Http Activity
set_link link at io = set link.timer at io

-- it is initiated where there is a place for it; else the connection is closed
pub record GoesOn (link : Link) (call : Initiating Http) (io later : Initiated Http Activity) : Type 0 where
  pub goes : MayInitiate io → later ≡ called call io
  pub ends : ¬ MayInitiate io → later ≡ parted link io

-- a read into this buffer
abbrev pub reading : Exchange → Vec ℕ → Initiating Http
reading exchange buffer =
    transferring exchange.link.lane (operation.ReadSome exchange.link.stream (length buffer.items)) (Some buffer)
    (http.Came exchange)

-- all answers are written; the buffer for what comes is kept
abbrev pub writing : Exchange → Vec ℕ → Initiating Http
writing exchange buffer =
    transferring exchange.link.lane (operation.WriteAll exchange.link.stream (length exchange.answers.items))
    (Some exchange.answers) (http.Written exchange.link exchange.connection buffer)

-- a client is told why it is let go
abbrev pub refusing : Link → Vec ℕ → Initiating Http
refusing link answer =
    transferring link.lane (operation.WriteAll link.stream (length answer.items)) (Some answer) (http.Refused link)

-- a wait for its timer
abbrev pub idling : Link → Initiating Http
idling link = initiating link.lane (operation.Wait link.timer) (http.Idle link)

-- its timer expires at this time and is waited for
abbrev pub Watches : Link → ℕ → Initiated Http Activity → Initiated Http Activity → Type 0
Watches link at io later = GoesOn link (idling link) (set_link link at io) later

-- ---- a connection begins

abbrev pub linked : Service → Name → Name → Link
linked service stream timer = record {
  alloc = service.alloc;
  stream = stream;
  timer = timer;
  lane = lane_of service.lanes.now stream;
  idle = service.idle;
}

-- nothing has come on it
pub record IsFirst (link : Link) (exchange : Exchange) : Type 0 where
  pub link_is : exchange.link ≡ link
  pub connection_is : exchange.connection ≡ new_left
  pub answers_are : exchange.answers.items ≡ []

-- its first bytes are read, or there is no memory for them and it is closed
pub data ReadsFirst (link : Link) (io later : Initiated Http Activity) : Type 0 where
  reads : (exchange : Exchange) (buffer : Vec ℕ) → IsFirst link exchange → vec_len buffer ≡ most_read →
      GoesOn link (reading exchange buffer) io later → ReadsFirst link io later
  parts : later ≡ parted link io → ReadsFirst link io later

-- it is watched, and then read
pub record Starts (link : Link) (at : ℕ) (io later : Initiated Http Activity) : Type 0 where
  pub behind : Initiated Http Activity
  pub watches : Watches link at io behind
  pub reads : ReadsFirst link behind later

-- a new connection gets a timer and starts; it is closed where no timer is left
pub data Begins (service : Service) (stream : Name) (now : ℕ) (before after : Activity) (io later : Initiated Http Activity) : Type 0 where
  starts : (timer : Name) → io.spares.timer ≡ Some timer →
      after ≡ record { until = until now service.idle; begun = false; over = false } →
      Starts (linked service stream timer) (until now service.idle) (changed (control.Make kind.Timer timer) io) later →
      Begins service stream now before after io later
  closes : (nat_lt 0 io.room && is_some io.spares.timer) ≡ false → after ≡ before → later ≡ closed stream io →
      Begins service stream now before after io later

-- ---- bytes come

-- what came in a buffer
abbrev pub came_in : ℕ → Vec ℕ → List ℕ
came_in size buffer = take (min size (length buffer.items)) buffer.items

-- they are fed to the connection
pub record IsFed (exchange : Exchange) (came : List ℕ) (fed : Exchange) : Type 0 where
  pub feeds : Feeds exchange.connection came exchange.answers.items fed.answers.items fed.connection
  pub link_is : fed.link ≡ exchange.link

-- more is read where nothing is owed; else what is owed is written
pub data Answers (fed : Exchange) (buffer : Vec ℕ) (before after : Activity) (io later : Initiated Http Activity) : Type 0 where
  reads : vec_len fed.answers ≡ 0 → after ≡ record before { begun = is_begun fed.connection } →
      GoesOn fed.link (reading fed buffer) io later → Answers fed buffer before after io later
  writes : ¬ (vec_len fed.answers ≡ 0) → after ≡ record before { begun = false } →
      GoesOn fed.link (writing fed buffer) io later → Answers fed buffer before after io later

-- all that came is fed and answered; without memory the connection is closed
pub data Takes (exchange : Exchange) (came : List ℕ) (buffer : Vec ℕ) (before after : Activity) (io later : Initiated Http Activity)
    : Type 0 where
  takes : (fed : Exchange) → IsFed exchange came fed → Answers fed buffer before after io later →
      Takes exchange came buffer before after io later
  fails : after ≡ before → later ≡ parted exchange.link io → Takes exchange came buffer before after io later

-- the connection is closed
pub record Parts (link : Link) (before after : Activity) (io later : Initiated Http Activity) : Type 0 where
  pub same : after ≡ before
  pub parts : later ≡ parted link io

-- nothing is done
pub record Rests (before after : Activity) (io later : Initiated Http Activity) : Type 0 where
  pub same : after ≡ before
  pub none : later ≡ io

-- bytes came, or the end or an error
abbrev pub Hears : Exchange → Code → ℕ → Option (Vec ℕ) → Activity → Activity → Initiated Http Activity → Initiated Http Activity → Type 0
Hears exchange code.Ok size (Some buffer) before after io later =
    Takes exchange (came_in size buffer) buffer before after io later
Hears exchange given size buffer before after io later = Parts exchange.link before after io later

-- likewise, unless the client was told that it is too slow
abbrev pub HearsUnless : Bool → Exchange → Code → ℕ → Option (Vec ℕ) → Activity → Activity → Initiated Http Activity → Initiated Http Activity → Type 0
HearsUnless true exchange given size buffer before after io later = Rests before after io later
HearsUnless false exchange given size buffer before after io later = Hears exchange given size buffer before after io later

-- ---- answers are written

-- more is read, and the next head has its time from now on
pub record ReadsNext (link : Link) (left : Left) (buffer : Vec ℕ) (now : ℕ) (before after : Activity)
    (io later : Initiated Http Activity) : Type 0 where
  pub answers : Vec ℕ
  pub none : answers.items ≡ []
  pub kept : after ≡ record before { until = until now link.idle; begun = is_begun left }
  pub reads : GoesOn link (reading (record { link = link; connection = left; answers = answers }) buffer) io later

abbrev pub ReadsUnless : Bool → Link → Left → Vec ℕ → ℕ → Activity → Activity → Initiated Http Activity → Initiated Http Activity → Type 0
ReadsUnless true link left buffer now before after io later = Parts link before after io later
ReadsUnless false link left buffer now before after io later = ReadsNext link left buffer now before after io later

-- all answers are written: more is read, unless one of them closes
abbrev pub ReadsOn : Link → Left → Vec ℕ → Code → Option (Vec ℕ) → ℕ → Activity → Activity → Initiated Http Activity → Initiated Http Activity → Type 0
ReadsOn link left buffer code.Ok (Some answers) now before after io later =
    ReadsUnless left.closed link left buffer now before after io later
ReadsOn link left buffer given answers now before after io later = Parts link before after io later

-- ---- time passes

-- the client is told that it is too slow, and is watched until it has taken that
pub data Tells (link : Link) (now : ℕ) (before after : Activity) (io later : Initiated Http Activity) : Type 0 where
  tells : (answer : Vec ℕ) (behind : Initiated Http Activity) → answer.items ≡ printed (refused status.RequestTimeout) →
      after ≡ record { until = until now link.idle; begun = false; over = true } →
      Watches link (until now link.idle) io behind → GoesOn link (refusing link answer) behind later →
      Tells link now before after io later
  fails : Parts link before after io later → Tells link now before after io later

abbrev pub TellsIf : Bool → Link → ℕ → Activity → Activity → Initiated Http Activity → Initiated Http Activity → Type 0
TellsIf true link now before after io later = Tells link now before after io later
TellsIf false link now before after io later = Parts link before after io later

-- a connection that is kept for longer is watched on; else it is closed, where a head has begun with a word
pub record IsKeptOn (link : Link) (now : ℕ) (before after : Activity) (io later : Initiated Http Activity) : Type 0 where
  pub same : now < before.until → after ≡ before
  pub watches : now < before.until → Watches link before.until io later
  pub tells : ¬ now < before.until → TellsIf before.begun link now before after io later

-- its timer has expired, or is destroyed with the connection
abbrev pub WaitsOn : Link → Code → ℕ → Activity → Activity → Initiated Http Activity → Initiated Http Activity → Type 0
WaitsOn link code.Ok now before after io later = IsKeptOn link now before after io later
WaitsOn link given now before after io later = Rests before after io later

-- ---- each handler

pub record AcceptsAt (service : Service) (given : Code) (made : Option Name) (now : ℕ) (before after : Activity)
    (io later : Initiated Http Activity) : Type 0 where
  pub same : after ≡ before
  pub accepts : AcceptsBy given service made now io later

pub record Resumes (service : Service) (timer : Name) (before after : Activity) (io later : Initiated Http Activity) : Type 0 where
  pub same : after ≡ before
  pub accepts : AcceptsAgain service timer io later

-- what each handler does, on a strand with this state
abbrev pub MayServe : Http → Completion → Activity → Activity → Initiated Http Activity → Initiated Http Activity → Type 0
MayServe (http.Accepted service) done before after io later =
    AcceptsAt service done.code done.made done.now before after io later
MayServe (http.Paused service timer) done before after io later = Resumes service timer before after io later
MayServe (http.Begins service stream) done before after io later = Begins service stream done.now before after io later
MayServe (http.Came exchange) done before after io later =
    HearsUnless before.over exchange done.code done.size done.buffer before after io later
MayServe (http.Written link left buffer) done before after io later =
    ReadsOn link left buffer done.code done.buffer done.now before after io later
MayServe (http.Refused link) done before after io later = Parts link before after io later
MayServe (http.Idle link) done before after io later = WaitsOn link done.code done.now before after io later

-- the state of a strand whose connection hasn't begun
abbrev pub new_activity : Activity
new_activity = record { until = 0; begun = false; over = false }

-- what it does on no strand: likewise, and the state goes
abbrev pub MayServeFree : Http → Completion → Initiated Http Activity → Initiated Http Activity → Type 0
MayServeFree handler done io later = (after : Activity) × MayServe handler done new_activity after io later

-- What the server does for a connection: all that came goes back, in order, and nothing else (RFC 862, TCP Based Echo
-- Service); where nothing comes for a time it is closed (Asio reference, basic_waitable_timer::expires_at).
use Rattle.std.specs.Prelude.{◌≡◌, ◌&&◌, ◌+◌, ◌<◌, ℕ, false, min, nat_lt, Option, Some, None, length, vec_len, if◌then◌else◌}
use Rattle.std.specs.Global.{Vec}
use Rattle.std.specs.Option.{is_some}
use Rattle.asio_types.specs.declared.code.Code.{Code}
use Rattle.asio_types.specs.declared.code.Code.TheVariants as code
use Rattle.io_rules.specs.declared.control.Control.TheVariants as control
use Rattle.io_rules.specs.declared.name.Kind.TheVariants as kind
use Rattle.io_rules.specs.declared.name.Lane.{Lane}
use Rattle.io_rules.specs.declared.name.Lane.TheVariants as lane
use Rattle.io_rules.specs.declared.name.Name.{Name}
use Rattle.io_rules.specs.declared.operation.Operation.TheVariants as operation
use Rattle.io_handlers.specs.declared.completion.Completion.{Completion}
use Rattle.io_handlers.specs.declared.staged.Initiating.{Initiating}
use Rattle.io_handlers.specs.Initiated.{Initiated, MayInitiate, called, changed, initiating, made_strand, transferring}
use Rattle.echo_handlers.specs.declared.echo.Activity.{Activity}
use Rattle.echo_handlers.specs.declared.echo.Echo.{Echo}
use Rattle.echo_handlers.specs.declared.echo.Echo.TheVariants as echo
use Rattle.echo_handlers.specs.declared.echo.Link.{Link}
use Rattle.echo_handlers.specs.declared.echo.Service.{Service}

-- how many bytes one read takes at most
abbrev pub most : ℕ
most = 4096

-- for so many nanoseconds nothing is accepted once an accept failed
abbrev pub pause : ℕ
pause = 100000000

-- a stream is closed, where there is room for the call
abbrev pub closed : Name → Initiated Echo Activity → Initiated Echo Activity
closed stream io = if nat_lt 0 io.room then changed (control.Free kind.Stream stream) io else io

-- likewise a timer is destroyed
abbrev pub freed : Name → Initiated Echo Activity → Initiated Echo Activity
freed timer io = if nat_lt 0 io.room then changed (control.Free kind.Timer timer) io else io

-- likewise a strand
abbrev pub left : Name → Initiated Echo Activity → Initiated Echo Activity
left strand io = if nat_lt 0 io.room then changed (control.Free kind.Strand strand) io else io

-- a connection is closed, and its timer and its strand are freed
abbrev pub parted : Link → Initiated Echo Activity → Initiated Echo Activity
parted link io = left link.strand (freed link.timer (closed link.stream io))

-- a timer expires at this time
abbrev pub set : Name → ℕ → Initiated Echo Activity → Initiated Echo Activity
set timer at io = if nat_lt 0 io.room then changed (control.Expires timer at) io else io

-- the time that is so many nanoseconds later
abbrev pub until : ℕ → ℕ → ℕ
until now idle = min (now + idle) 18446744073709551615

-- it is initiated where there is a place for it; else the connection is closed
pub record GoesOn (link : Link) (call : Initiating Echo) (io later : Initiated Echo Activity) : Type 0 where
  pub goes : MayInitiate io → later ≡ called call io
  pub ends : ¬ MayInitiate io → later ≡ parted link io

-- where its handlers execute
abbrev pub lane_of : Link → Lane
lane_of link = lane.Strand link.strand

-- a read into this buffer
abbrev pub reading : Link → Vec ℕ → Initiating Echo
reading link buffer =
    transferring (lane_of link) (operation.ReadSome link.stream (length buffer.items)) (Some buffer) (echo.Came link)

-- the first so many bytes of this buffer are written
abbrev pub writing : Link → ℕ → Vec ℕ → Initiating Echo
writing link size buffer =
    transferring (lane_of link) (operation.WriteAll link.stream (min size (length buffer.items))) (Some buffer) (echo.Written link)

-- a wait for its timer
abbrev pub idling : Link → Initiating Echo
idling link = initiating (lane_of link) (operation.Wait link.timer) (echo.Idle link)

-- bytes came: just these are written next; at the end or an error the connection is closed
abbrev pub Answers : Link → Code → ℕ → Option (Vec ℕ) → Initiated Echo Activity → Initiated Echo Activity → Type 0
Answers link code.Ok size (Some buffer) io later = GoesOn link (writing link size buffer) io later
Answers link given size buffer io later = later ≡ parted link io

-- all of them are written: the next ones are read
abbrev pub ReadsOn : Link → Code → Option (Vec ℕ) → Initiated Echo Activity → Initiated Echo Activity → Type 0
ReadsOn link code.Ok (Some buffer) io later = GoesOn link (reading link buffer) io later
ReadsOn link given buffer io later = later ≡ parted link io

-- its timer expires at this time and is waited for
abbrev pub Watches : Link → ℕ → Initiated Echo Activity → Initiated Echo Activity → Type 0
Watches link at io later = GoesOn link (idling link) (set link.timer at io) later

-- a connection that is kept for longer is watched on; one that isn't is closed
pub record IsKeptOn (link : Link) (now kept : ℕ) (io later : Initiated Echo Activity) : Type 0 where
  pub watches : now < kept → Watches link kept io later
  pub parts : ¬ now < kept → later ≡ parted link io

-- its timer has expired, or is destroyed with the connection
abbrev pub WaitsOn : Link → Code → ℕ → ℕ → Initiated Echo Activity → Initiated Echo Activity → Type 0
WaitsOn link code.Ok now kept io later = IsKeptOn link now kept io later
WaitsOn link given now kept io later = later ≡ io

-- its first bytes are read, or there is no memory for them and it is closed
pub data Reads (link : Link) (io later : Initiated Echo Activity) : Type 0 where
  reads : (buffer : Vec ℕ) → vec_len buffer ≡ most → GoesOn link (reading link buffer) io later → Reads link io later
  parts : later ≡ parted link io → Reads link io later

-- it is watched, and then read
pub record Starts (link : Link) (at : ℕ) (io later : Initiated Echo Activity) : Type 0 where
  pub behind : Initiated Echo Activity
  pub watches : Watches link at io behind
  pub reads : Reads link behind later

abbrev pub linked : Service → Name → Name → Name → Link
linked service stream timer strand =
    record { stream = stream; timer = timer; strand = strand; idle = service.idle }

-- a connection that has a strand gets a timer and starts; it is closed where no timer is left
pub data StartsIf (service : Service) (stream strand : Name) (now : ℕ) (io later : Initiated Echo Activity) : Type 0 where
  starts : (timer : Name) → io.spares.timer ≡ Some timer →
      Starts (linked service stream timer strand) (until now service.idle) (changed (control.Make kind.Timer timer) io) later →
      StartsIf service stream strand now io later
  closes : (nat_lt 0 io.room && is_some io.spares.timer) ≡ false → later ≡ left strand (closed stream io) →
      StartsIf service stream strand now io later

-- nothing has come on it
abbrev pub new_activity : Activity
new_activity = record { until = 0 }

-- a new connection gets a strand of its own; it is closed where none is left
pub data Begins (service : Service) (stream : Name) (now : ℕ) (io later : Initiated Echo Activity) : Type 0 where
  begins : (strand : Name) → io.spares.strand ≡ Some strand →
      StartsIf service stream strand now (made_strand strand new_activity io) later → Begins service stream now io later
  closes : (nat_lt 0 io.room && is_some io.spares.strand) ≡ false → later ≡ closed stream io → Begins service stream now io later

abbrev pub BeginsIf : Service → Option Name → ℕ → Initiated Echo Activity → Initiated Echo Activity → Type 0
BeginsIf service None now io later = later ≡ io
BeginsIf service (Some stream) now io later = Begins service stream now io later

abbrev pub accepting : Service → Initiating Echo
accepting service = initiating lane.Own (operation.Accept service.listener) (echo.Accepted service)

-- it is initiated where there is a place for it; else nothing is
pub record Initiates (call : Initiating Echo) (io later : Initiated Echo Activity) : Type 0 where
  pub goes : MayInitiate io → later ≡ called call io
  pub none : ¬ MayInitiate io → later ≡ io

abbrev pub AcceptsNext : Service → Initiated Echo Activity → Initiated Echo Activity → Type 0
AcceptsNext service io later = Initiates (accepting service) io later

-- the next connection is accepted, and what was accepted begins
pub record Accepts (service : Service) (made : Option Name) (now : ℕ) (io later : Initiated Echo Activity) : Type 0 where
  pub behind : Initiated Echo Activity
  pub next : AcceptsNext service io behind
  pub begins : BeginsIf service made now behind later

-- a wait for the listener's timer
abbrev pub resting : Service → Initiating Echo
resting service = initiating lane.Own (operation.Wait service.timer) (echo.Rested service)

-- the timer of the listener expires after a pause, and nothing but a wait for it is initiated
abbrev pub Rests : Service → ℕ → Initiated Echo Activity → Initiated Echo Activity → Type 0
Rests service now io later = Initiates (resting service) (set service.timer (until now pause) io) later

-- an accept completed: a listener that is closed accepts no more, and one whose accept failed, as for want of descriptors,
-- rests before it accepts again
abbrev pub AcceptsIf : Service → Code → Option Name → ℕ → Initiated Echo Activity → Initiated Echo Activity → Type 0
AcceptsIf service code.Ok made now io later = Accepts service made now io later
AcceptsIf service code.Aborted made now io later = later ≡ io
AcceptsIf service code.Bad made now io later = later ≡ io
AcceptsIf service given made now io later = Rests service now io later

-- what each handler does, where its connection is kept until this time
abbrev pub MayEcho : ℕ → Echo → Completion → Initiated Echo Activity → Initiated Echo Activity → Type 0
MayEcho kept (echo.Accepted service) done io later = AcceptsIf service done.code done.made done.now io later
MayEcho kept (echo.Rested service) done io later = AcceptsNext service io later
MayEcho kept (echo.Came link) done io later = Answers link done.code done.size done.buffer io later
MayEcho kept (echo.Written link) done io later = ReadsOn link done.code done.buffer io later
MayEcho kept (echo.Idle link) done io later = WaitsOn link done.code done.now kept io later

-- until when a connection is kept, which was this time before: what came keeps it
abbrev pub heard : Echo → Code → ℕ → ℕ → ℕ
heard (echo.Came link) code.Ok now kept = until now link.idle
heard handler given now kept = kept

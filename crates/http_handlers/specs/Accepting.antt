-- How connections are accepted (Asio reference, basic_socket_acceptor::async_accept): each begins on a
-- strand of its own, and behind an accept that failed there is a pause.
use Rattle.std.specs.Prelude.{◌≡◌, ◌&&◌, ◌+◌, ℕ, false, List, min, nat_lt, get_or, Option, Some, None, if◌then◌else◌}
use Rattle.std.specs.Option.{is_some}
use Rattle.asio_types.specs.declared.code.Code.{Code}
use Rattle.asio_types.specs.declared.code.Code.TheVariants as code
use Rattle.io_rules.specs.declared.control.Control.TheVariants as control
use Rattle.io_rules.specs.declared.name.Kind.TheVariants as kind
use Rattle.io_rules.specs.declared.name.Lane.{Lane}
use Rattle.io_rules.specs.declared.name.Lane.TheVariants as lane
use Rattle.io_rules.specs.declared.name.Name.{Name}
use Rattle.io_rules.specs.declared.operation.Operation.TheVariants as operation
use Rattle.io_handlers.specs.declared.staged.Initiating.{Initiating}
use Rattle.io_handlers.specs.Initiated.{Initiated, MayInitiate, called, changed, initiating}
use Rattle.http_handlers.specs.declared.http.Http.{Http}
use Rattle.http_handlers.specs.declared.http.Http.TheVariants as http
use Rattle.http_handlers.specs.declared.serving.Service.{Service}
use Rattle.http_handlers.specs.declared.serving.Activity.{Activity}

-- behind an accept that failed the next one waits for so many nanoseconds
abbrev pub pause : ℕ
pause = 100000000

-- a stream is closed, where there is room for the call
abbrev pub closed : Name → Initiated Http Activity → Initiated Http Activity
closed stream io = if nat_lt 0 io.room then changed (control.Free kind.Stream stream) io else io

-- likewise a timer is destroyed
abbrev pub freed : Name → Initiated Http Activity → Initiated Http Activity
freed timer io = if nat_lt 0 io.room then changed (control.Free kind.Timer timer) io else io

-- it expires at this time
abbrev pub set : Name → ℕ → Initiated Http Activity → Initiated Http Activity
set timer at io = if nat_lt 0 io.room then changed (control.Expires timer at) io else io

-- the time that is so many nanoseconds later
abbrev pub until : ℕ → ℕ → ℕ
until now idle = min (now + idle) 18446744073709551615

-- the strand of a connection, by the place of its stream
abbrev pub lane_of : List Lane → Name → Lane
lane_of lanes stream = get_or lanes stream.place lane.Own

abbrev pub beginning : Service → Name → Initiating Http
beginning service stream = initiating (lane_of service.lanes.now stream) operation.Post (http.Begins service stream)

-- it begins on its strand, where there is a place for that; else it is closed
pub record Passes (service : Service) (stream : Name) (io later : Initiated Http Activity) : Type 0 where
  pub goes : MayInitiate io → later ≡ called (beginning service stream) io
  pub ends : ¬ MayInitiate io → later ≡ closed stream io

abbrev pub PassesIf : Service → Option Name → Initiated Http Activity → Initiated Http Activity → Type 0
PassesIf service None io later = later ≡ io
PassesIf service (Some stream) io later = Passes service stream io later

abbrev pub accepting : Service → Initiating Http
accepting service = initiating lane.Own (operation.Accept service.listener) (http.Accepted service)

-- the next connection is accepted, and what was accepted begins
pub record Accepts (service : Service) (made : Option Name) (io later : Initiated Http Activity) : Type 0 where
  pub behind : Initiated Http Activity
  pub next : MayInitiate io → behind ≡ called (accepting service) io
  pub none : ¬ MayInitiate io → behind ≡ io
  pub passes : PassesIf service made behind later

abbrev pub retrying : Service → Name → Initiating Http
retrying service timer = initiating lane.Own (operation.Wait timer) (http.Paused service timer)

-- it is waited for
pub record Retries (service : Service) (timer : Name) (io later : Initiated Http Activity) : Type 0 where
  pub goes : MayInitiate io → later ≡ called (retrying service timer) io
  pub none : ¬ MayInitiate io → later ≡ io

-- the next connection is accepted after a pause, or at once where no timer is left
pub data Pauses (service : Service) (now : ℕ) (io later : Initiated Http Activity) : Type 0 where
  pauses : (timer : Name) → io.spares.timer ≡ Some timer →
      Retries service timer (set timer (until now pause) (changed (control.Make kind.Timer timer) io)) later →
      Pauses service now io later
  accepts : (nat_lt 0 io.room && is_some io.spares.timer) ≡ false → (MayInitiate io → later ≡ called (accepting service) io) →
      (¬ MayInitiate io → later ≡ io) → Pauses service now io later

-- a connection was accepted, or that failed; where the listener is gone nothing is done
abbrev pub AcceptsBy : Code → Service → Option Name → ℕ → Initiated Http Activity → Initiated Http Activity → Type 0
AcceptsBy code.Ok service made now io later = Accepts service made io later
AcceptsBy code.Aborted service made now io later = later ≡ io
AcceptsBy code.Bad service made now io later = later ≡ io
AcceptsBy given service made now io later = Pauses service now io later

-- the next connection is accepted, and the timer of the pause is destroyed
pub record AcceptsAgain (service : Service) (timer : Name) (io later : Initiated Http Activity) : Type 0 where
  pub behind : Initiated Http Activity
  pub next : MayInitiate io → behind ≡ called (accepting service) io
  pub none : ¬ MayInitiate io → behind ≡ io
  pub freed : later ≡ freed timer behind

-- What calls do with the sockets of streams and listeners (Asio reference, basic_stream_socket,
-- basic_socket_acceptor, basic_socket::close).
use Rattle.std.specs.Prelude.{Option, Some, None}
use Rattle.io_rules.specs.declared.control.Control.{Control}
use Rattle.io_rules.specs.declared.control.Control.TheVariants as control
use Rattle.io_rules.specs.declared.name.Kind.TheVariants as kind
use Rattle.io_rules.specs.declared.operation.Operation.{Operation}
use Rattle.io_rules.specs.declared.operation.Operation.TheVariants as operation
use Rattle.io_handlers.specs.declared.staged.Staged.{Staged}
use Rattle.io_handlers.specs.declared.staged.Staged.TheVariants as staged
use Rattle.io_handlers.specs.declared.touched.Touched.{Touched}
use Rattle.io_handlers.specs.declared.touched.Touched.TheVariants as touched

-- reads and accepts wait for one thing, writes and connects for another
abbrev pub touched_by : Operation → Option Touched
touched_by (operation.ReadSome stream size) = Some (touched.Read stream)
touched_by (operation.ReadAll stream size) = Some (touched.Read stream)
touched_by (operation.ReadUntil stream max) = Some (touched.Read stream)
touched_by (operation.Accept listener) = Some (touched.Read listener)
touched_by (operation.WriteSome stream size) = Some (touched.Write stream)
touched_by (operation.WriteAll stream size) = Some (touched.Write stream)
touched_by (operation.Connect stream) = Some (touched.Write stream)
touched_by _ = None

abbrev pub closed_by : Control → Option Touched
closed_by (control.Free kind.Stream name) = Some (touched.Closed name)
closed_by (control.Free kind.Listener name) = Some (touched.Closed name)
closed_by _ = None

abbrev pub touched_of : {H S : Type 0} → Staged H S → Option Touched
touched_of (staged.Called call) = touched_by call.kind
touched_of (staged.Changed change) = closed_by change
touched_of (staged.ExpiresAfter timer after) = None
touched_of (staged.MadeStrand name state) = None

-- what this call does, if there is one
abbrev pub touched_in : {H S : Type 0} → Option (Staged H S) → Option Touched
touched_in None = None
touched_in (Some call) = touched_of call

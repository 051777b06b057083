-- What an event of the system says of the sides of a socket. An end or an error that comes together with
-- bytes is told once, so it outranks them.
use Rattle.std.specs.Prelude.{Bool, ◌||◌, if◌then◌else◌}
use Rattle.mio.specs.declared.event.event.Event.{Event}
use Rattle.mio.specs.Event.{event_token, is_error, is_read_closed, is_readable, is_writable, is_write_closed}
use Rattle.io_reactor.specs.declared.edges.Edge.{Edge}
use Rattle.io_reactor.specs.declared.edges.Readiness.{Readiness}
use Rattle.io_reactor.specs.declared.edges.Readiness.TheVariants as readiness
use Rattle.io_reactor_mio.specs.Tokens.{name_at}

abbrev pub readiness_of : Bool → Bool → Readiness
readiness_of closed ready =
    if closed then readiness.Closed else if ready then readiness.Ready else readiness.Same

abbrev pub edge_of : Event → Edge
edge_of event = record {
  name = name_at (event_token event).0;
  read = readiness_of (is_read_closed event || is_error event) (is_readable event);
  write = readiness_of (is_write_closed event || is_error event) (is_writable event);
}

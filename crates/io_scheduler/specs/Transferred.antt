-- An operation on a stream or a listener is initiated (Asio reference, basic_stream_socket::async_read_some,
-- ::async_write_some, async_write, basic_socket_acceptor::async_accept).
use Rattle.std.specs.Prelude.{ℕ, ◌==◌, ◌&&◌, cond, not, Bool, false, List, [], ◌∷◌, Option, None, Some}
use Rattle.asio_types.specs.declared.code.Code.{Code}
use Rattle.asio_types.specs.declared.code.Code.TheVariants as code
use Rattle.io_rules.specs.declared.event.Event.{Event}
use Rattle.io_rules.specs.declared.event.Event.TheVariants as event
use Rattle.io_rules.specs.declared.name.Lane.{Lane}
use Rattle.io_rules.specs.declared.operation.Operation.{Operation}
use Rattle.io_rules.specs.declared.operation.Operation.TheVariants as operation
use Rattle.io_rules.specs.declared.request.Gone.{Gone}
use Rattle.io_rules.specs.declared.request.Gone.TheVariants as gone
use Rattle.io_rules.specs.declared.request.Request.{Request}
use Rattle.io_rules.specs.Calls.{gone_by, is_lane_gone, is_target_gone}
use Rattle.io_rules.specs.Cancelling.{queue_of}
use Rattle.io_rules.specs.Operations.{Target, target_of}
use Rattle.io_rules.specs.Serving.{is_none_of}
use Rattle.io_rules.specs.State.{ContextState, StreamState, stream_at}
pub use Rattle.io_handlers.specs.Initiated.{is_transfer}
use Rattle.io_scheduler.specs.Counted.{may_post}

-- the size of its buffer
abbrev pub size_of : Operation → ℕ
size_of (operation.ReadSome stream size) = size
size_of (operation.WriteSome stream size) = size
size_of (operation.WriteAll stream size) = size
size_of _ = 0

-- how the first operation of a side completes at once, if it does: where there is no connection, or it has
-- an empty buffer
abbrev pub settled_now : Bool → Operation → Option Code
settled_now linked (operation.Accept listener) = None
settled_now linked kind =
    cond linked (cond (size_of kind == 0) (Some code.Ok) None) (Some code.Bad)

-- it is the first of its side
abbrev pub settled_on : StreamState → Option Target → Operation → Option Code
settled_on stream None kind = None
settled_on stream (Some target) kind =
    cond (is_none_of (queue_of target.side stream)) (settled_now stream.linked kind) None

abbrev pub stream_for : ContextState → Option Target → StreamState
stream_for s None = stream_at s.streams (record { place = 0; generation = 0 })
stream_for s (Some target) = stream_at s.streams target.stream

-- how an operation that is initiated completes at once, if it does
abbrev pub settled_at_once : ContextState → Operation → Option Code
settled_at_once s kind = settled_on (stream_for s (target_of kind)) (target_of kind) kind

abbrev pub done_if : ℕ → Option Code → List Event
done_if op None = []
done_if op (Some given) = event.Done op given 0 ∷ []

-- the call, and the completion if it completes at once
abbrev pub transfers : ℕ → Option ℕ → Request → Option Code → List Event
transfers op by request given = event.Called op by request gone.Nothing ∷ done_if op given

-- a place is free, and a number, and the strand and the stream are there
abbrev pub may_transfer : ContextState → Lane → Operation → Bool
may_transfer s on kind = may_post s on && not (is_target_gone s kind (target_of kind))

-- which of what it names is gone
abbrev pub gone_for_transfer : ContextState → Lane → Operation → Gone
gone_for_transfer s on kind =
    gone_by (is_lane_gone s.names on) false false (is_target_gone s kind (target_of kind))

-- how an operation of which this is gone completes at once, if it does
abbrev pub code_at_once : ContextState → Operation → Gone → Option Code
code_at_once s kind gone.Nothing = settled_at_once s kind
code_at_once s kind gone.Strand = Some code.Bad
code_at_once s kind gone.Other = Some code.Bad

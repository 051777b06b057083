-- An operation on a stream or a listener is initiated, or this is closed, from outside of all handlers (Asio reference,
-- basic_socket_acceptor::async_accept, basic_socket::close).
use Rattle.std.specs.Prelude.{ℕ, List, None, if◌then◌else◌}
use Rattle.io_rules.specs.declared.event.Event.{Event}
use Rattle.io_rules.specs.declared.limits.Limits.{Limits}
use Rattle.io_rules.specs.declared.request.Request.{Request}
use Rattle.io_rules.specs.Legal.{state_of}
use Rattle.io_rules.specs.declared.name.Name.{Name}
use Rattle.io_rules.specs.Names.{is_alive}
use Rattle.io_scheduler.specs.Closing.{closings}
use Rattle.io_scheduler.specs.Come.{with_events}
use Rattle.io_scheduler.specs.Transferred.{settled_at_once, transfers}

-- the history behind its call, and behind its completion where it completes at once
abbrev pub transferred : Limits → ℕ → Request → List Event → List Event
transferred limits op request before =
    with_events (transfers op None request (settled_at_once (state_of limits before) request.kind)) before

-- behind a close, and behind the completion of what it cancels; on a name that is gone it has no effect
abbrev pub closed_by : Limits → Name → List Event → List Event
closed_by limits name before =
    if is_alive (state_of limits before).names.streams name
    then with_events (closings name (state_of limits before)) before
    else before

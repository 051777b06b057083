-- What is done with a timer from outside of all handlers.
use Rattle.std.specs.Prelude.{List, None, if◌then◌else◌}
use Rattle.io_rules.specs.declared.event.Event.{Event}
use Rattle.io_rules.specs.declared.limits.Limits.{Limits}
use Rattle.io_rules.specs.declared.name.Name.{Name}
use Rattle.io_rules.specs.Legal.{state_of}
use Rattle.io_rules.specs.Names.{is_alive}
use Rattle.io_scheduler.specs.declared.timing.TimerChange.{TimerChange}
use Rattle.io_scheduler.specs.Come.{changes, with_events}
use Rattle.io_scheduler.specs.Timing.{control_of}

-- the history behind a change of a timer, and behind the completion of what it cancels; on a name that is gone it
-- has no effect
abbrev pub changed_by : Limits → Name → TimerChange → List Event → List Event
changed_by limits timer change before =
    if is_alive (state_of limits before).names.timers timer
    then with_events (changes None (control_of timer change) (state_of limits before)) before
    else before

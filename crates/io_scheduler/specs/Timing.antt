-- What a timer's owner may do with it, besides waiting (Asio reference, basic_waitable_timer::expires_at, ::cancel,
-- ::cancel_one, ::~basic_waitable_timer).
use Rattle.std.specs.Prelude.{Bool, true, false, List}
use Rattle.io_rules.specs.declared.control.Control.{Control}
use Rattle.io_rules.specs.declared.control.Control.TheVariants as control
use Rattle.io_rules.specs.declared.name.Kind.TheVariants as kind
use Rattle.io_rules.specs.declared.name.Name.{Name}
use Rattle.io_rules.specs.Names.{Names, with_freed}
use Rattle.io_rules.specs.State.{TimerState, new_timer, with_timer}
use Rattle.io_scheduler.specs.declared.timing.TimerChange.{TimerChange}
use Rattle.io_scheduler.specs.declared.timing.TimerChange.TheVariants as change

-- as a call
abbrev pub control_of : Name → TimerChange → Control
control_of timer (change.ExpiresAt at) = control.Expires timer at
control_of timer change.Cancel = control.Cancel timer
control_of timer change.CancelOne = control.CancelOne timer
control_of timer change.Free = control.Free kind.Timer timer

-- it cancels all that waits, or the first
abbrev pub cancels_all : TimerChange → Bool
cancels_all change.CancelOne = false
cancels_all _ = true

-- the names and the expiries behind it
abbrev pub names_behind : Name → TimerChange → Names → Names
names_behind timer change.Free names = record names { timers = with_freed timer names.timers }
names_behind timer _ names = names

abbrev pub timers_behind : Name → TimerChange → List TimerState → List TimerState
timers_behind timer (change.ExpiresAt at) timers = with_timer timer (record { expiry = at }) timers
timers_behind timer change.Free timers = with_timer timer new_timer timers
timers_behind timer _ timers = timers

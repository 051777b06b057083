-- What a history shows of the outside: a failure of the reactor, and a stop that none of the
-- script's acts made (Asio reference, io_context::stop).
use Rattle.std.specs.Prelude.{Bool, true, false, List, None}
use Rattle.std.specs.List.{list_any}
use Rattle.asio_types.specs.declared.event.Event.{Event}
use Rattle.asio_types.specs.declared.event.Event.TheVariants as event

abbrev pub is_fault : Event → Bool
is_fault event.Fault = true
is_fault _ = false

-- the reactor has failed in this history
abbrev pub has_fault : List Event → Bool
has_fault events = list_any is_fault events

abbrev pub is_outside_stop : Event → Bool
is_outside_stop (event.Stop None) = true
is_outside_stop _ = false

-- somebody outside stopped the context in this history
abbrev pub has_outside_stop : List Event → Bool
has_outside_stop events = list_any is_outside_stop events

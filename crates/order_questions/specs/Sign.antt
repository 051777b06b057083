-- What is asked of one event.
use Rattle.std.specs.Prelude.{◌≡◌}
use Rattle.asio_types.specs.declared.code.Code.TheVariants as code
use Rattle.asio_types.specs.declared.event.Event.{Event}
use Rattle.asio_types.specs.declared.event.Event.TheVariants as event
use Rattle.order_questions.specs.declared.sign.Sign.{Sign}
use Rattle.order_questions.specs.declared.sign.Sign.TheVariants as sign

-- an event without its size and its mark
abbrev pub coded : Event → Event
coded (event.Begin op given size) = event.Begin op given 0
coded (event.Done op given size) = event.Done op given 0
coded (event.End op mark) = event.End op 0
coded (event.Dropped op mark) = event.Dropped op 0
coded other = other

-- an event without its code, too
abbrev pub plain : Event → Event
plain (event.Begin op given size) = event.Begin op code.Ok 0
plain (event.Done op given size) = event.Done op code.Ok 0
plain other = coded other

-- the event shows the sign
abbrev pub Shows : Sign → Event → Type 0
Shows (sign.Whole wanted) event = event ≡ wanted
Shows (sign.Coded wanted) event = coded event ≡ coded wanted
Shows (sign.Plain wanted) event = plain event ≡ plain wanted

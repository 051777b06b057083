-- What is asked of a history, which is a list of events.
use Rattle.std.specs.Prelude.{◌≡◌, ◌≤◌, ℕ, ◌+◌, List, slice_get, Some}
use Rattle.asio_types.specs.declared.code.Code.TheVariants as code
use Rattle.asio_types.specs.declared.event.Event.{Event}
use Rattle.asio_types.specs.declared.event.Event.TheVariants as event
use Rattle.order_questions.specs.Sign.{Shows}
use Rattle.order_questions.specs.declared.condition.Condition.{Condition}
use Rattle.order_questions.specs.declared.condition.Condition.TheVariants as condition
use Rattle.order_questions.specs.declared.sign.Sign.{Sign}
use Rattle.order_questions.specs.declared.sign.Sign.TheVariants as sign

-- an event shows this, from a place on
pub record HappensFrom (shown : Sign) (events : List Event) (from : ℕ) : Type 0 where
  pub at : ℕ
  pub above : from ≤ at
  pub event : Event
  pub stands : slice_get events at ≡ Some event
  pub shows : Shows shown event

-- an event that shows the first stands before one that shows the second
pub record StandsBefore (first second : Sign) (events : List Event) : Type 0 where
  pub at : ℕ
  pub event : Event
  pub stands : slice_get events at ≡ Some event
  pub shows : Shows first event
  pub later : HappensFrom second events (at + 1)

-- a handler begins, and ends
abbrev pub begin_of : ℕ → Sign
begin_of op = sign.Plain (event.Begin op code.Ok 0)

abbrev pub end_of : ℕ → Sign
end_of op = sign.Plain (event.End op 0)

-- the history meets the condition
abbrev pub Meets : Condition → List Event → Type 0
Meets (condition.Happens shown) events = HappensFrom shown events 0
Meets (condition.Before first second) events = StandsBefore first second events
Meets (condition.Overlap one other) events =
    StandsBefore (begin_of one) (end_of other) events
    × StandsBefore (begin_of other) (end_of one) events

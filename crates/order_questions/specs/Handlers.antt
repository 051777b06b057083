-- The orders of handlers alone. Two histories count as one where the same handlers begin, end and are
-- destroyed in the same order, wherever calls and the events of the reactor stand (Asio reference,
-- io_context::run).
use Rattle.std.specs.Prelude.{◌≡◌, ◌≢◌, ◌<◌, ℕ, Bool, true, false, List, filter, All, Contains, length}
use Rattle.std.specs.List.{AllPairs}
use Rattle.asio_types.specs.declared.event.Event.{Event}
use Rattle.asio_types.specs.declared.event.Event.TheVariants as event
use Rattle.session_orders.specs.declared.bounds.ReactorKind.{ReactorKind}
use Rattle.session_orders.specs.Bound.{IsCutOff}
use Rattle.session_orders.specs.Order.{AreOrders, IsOrder}
use Rattle.session_orders.specs.declared.bounds.Bounds.{Bounds}
use Rattle.session_script.specs.Script.{ScriptModel}
use Rattle.order_questions.specs.Answer.{order_at}

-- a handler begins, ends or is destroyed
abbrev pub is_handler : Event → Bool
is_handler (event.Begin op given size) = true
is_handler (event.End op mark) = true
is_handler (event.Dropped op mark) = true
is_handler _ = false

abbrev pub handlers_in : List Event → List Event
handlers_in events = filter is_handler events

-- one of the first histories has these
pub record IsShown (orders : List (List Event)) (count : ℕ) (shown : List Event) : Type 0 where
  pub at : ℕ
  pub within : at < count
  pub is : shown ≡ handlers_in (order_at orders at)

-- what the first histories have, each list once
pub record AreHandlersOf (orders : List (List Event)) (count : ℕ) (lists : List (List Event))
    : Type 0 where
  pub each : All (IsShown orders count) lists
  pub once : AllPairs (λ first second. first ≢ second) lists
  pub every : (at : ℕ) → at < count → Contains lists (handlers_in (order_at orders at))

-- a legal whole history has these
pub record IsHandlerOrder (script : ScriptModel) (reactor : ReactorKind) (shown : List Event) : Type 0 where
  pub events : List Event
  pub order : IsOrder script reactor events
  pub is : shown ≡ handlers_in events

-- each is what a legal whole history has, and none stands there twice
pub record AreHandlerOrders (script : ScriptModel) (reactor : ReactorKind) (lists : List (List Event))
    : Type 0 where
  pub each : All (IsHandlerOrder script reactor) lists
  pub once : AllPairs (λ first second. first ≢ second) lists

-- what any legal whole history has stands there
abbrev pub HasAllHandlerOrders : ScriptModel → ReactorKind → List (List Event) → Type 0
HasAllHandlerOrders script reactor lists =
    (events : List Event) → IsOrder script reactor events → Contains lists (handlers_in events)

-- they are what a list of histories has that stopped at a bound
pub record AreCutOff (script : ScriptModel) (bounds : Bounds) (lists : List (List Event)) : Type 0 where
  pub orders : List (List Event)
  pub right : AreOrders script bounds.reactor orders
  pub cut : IsCutOff script bounds orders
  pub are : AreHandlersOf orders (length orders) lists

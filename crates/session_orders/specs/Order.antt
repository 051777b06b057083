-- Which histories of a script are listed: those that are legal and whole for what is known of the
-- reactor, with the marks of the program's handlers, without a stop from outside, and without a
-- failure of the reactor unless that is asked for (Asio reference, io_context::run and
-- io_context::stop).
use Rattle.std.specs.Prelude.{◌≡◌, ◌≢◌, ℕ, ◌+◌, true, List, [], ◌∷◌, None, All, Contains}
use Rattle.std.specs.List.{AllPairs}
use Rattle.asio_types.specs.declared.event.Event.{Event}
use Rattle.asio_types.specs.declared.event.Event.TheVariants as event
use Rattle.history_rules.specs.Legal.{IsLegal}
use Rattle.session_orders.specs.declared.bounds.ReactorKind.{ReactorKind}
use Rattle.session_script.specs.Script.{ScriptModel}

-- what a handler returns, whether it ran or was destroyed
abbrev pub mark_of : ℕ → ℕ
mark_of op = 1000 + op

-- an event of such a history
abbrev pub IsAsked : ReactorKind → Event → Type 0
IsAsked reactor (event.Stop None) = ⊥
IsAsked reactor event.Fault = reactor.failing ≡ true
IsAsked reactor (event.End op mark) = mark ≡ mark_of op
IsAsked reactor (event.Dropped op mark) = mark ≡ mark_of op
IsAsked reactor _ = Unit {0}

abbrev pub AreAsked : ReactorKind → List Event → Type 0
AreAsked reactor [] = Unit {0}
AreAsked reactor (event ∷ events) = IsAsked reactor event × AreAsked reactor events

-- a legal whole history
pub record IsOrder (script : ScriptModel) (reactor : ReactorKind) (events : List Event) : Type 0 where
  pub legal : IsLegal script reactor.told events
  pub asked : AreAsked reactor events

-- each is a legal whole history, and none stands there twice
pub record AreOrders (script : ScriptModel) (reactor : ReactorKind) (orders : List (List Event))
    : Type 0 where
  pub each : All (IsOrder script reactor) orders
  pub once : AllPairs (λ first second. first ≢ second) orders

-- no legal whole history is left out
abbrev pub HasAllOrders : ScriptModel → ReactorKind → List (List Event) → Type 0
HasAllOrders script reactor orders =
    (events : List Event) → IsOrder script reactor events → Contains orders events

-- What a bound says of a script: how many beginnings its legal histories have at least, and when a list of
-- its histories stops before its end.
use Rattle.std.specs.Prelude.{◌≡◌, ◌≢◌, ◌≤◌, ◌⊎◌, ℕ, List, All, Contains, length}
use Rattle.std.specs.List.{AllPairs}
use Rattle.asio_types.specs.declared.event.Event.{Event}
use Rattle.history_rules.specs.Legal.{IsLegalSoFar}
use Rattle.session_orders.specs.Order.{AreAsked, IsOrder}
use Rattle.session_orders.specs.declared.bounds.Bounds.{Bounds}
use Rattle.session_orders.specs.declared.bounds.ReactorKind.{ReactorKind}
use Rattle.session_script.specs.Script.{ScriptModel}

-- the first events of a history that is legal so far
pub record IsBeginning (script : ScriptModel) (reactor : ReactorKind) (events : List Event)
    : Type 0 where
  pub legal : IsLegalSoFar script reactor.told events
  pub asked : AreAsked reactor events

-- there are at least so many beginnings
pub record HasBeginnings (script : ScriptModel) (reactor : ReactorKind) (least : ℕ) : Type 0 where
  pub beginnings : List (List Event)
  pub each : All (IsBeginning script reactor) beginnings
  pub once : AllPairs (λ first second. first ≢ second) beginnings
  pub many : least ≤ length beginnings

-- just so many histories are listed, and there is another
pub record IsFull (script : ScriptModel) (reactor : ReactorKind) (histories : ℕ)
    (orders : List (List Event)) : Type 0 where
  pub full : length orders ≡ histories
  pub other : List Event
  pub order : IsOrder script reactor other
  pub missing : Contains orders other → ⊥

-- a list of histories stopped at a bound: it has as many as it may, or as many beginnings were looked
-- at as may be
abbrev pub IsCutOff : ScriptModel → Bounds → List (List Event) → Type 0
IsCutOff script bounds orders =
    IsFull script bounds.reactor bounds.histories orders
    ⊎ HasBeginnings script bounds.reactor bounds.beginnings

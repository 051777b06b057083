-- Where a walk through the histories stands, and which it has passed: a history comes before another
-- where at the first event in which they differ its place is less.
use Rattle.std.specs.Prelude.{◌≡◌, ◌≢◌, ◌≤◌, ◌<◌, ◌⊎◌, ℕ, List, [], ◌∷◌, ◌++◌, All, Contains}
use Rattle.std.specs.List.{AllPairs}
use Rattle.asio_types.specs.declared.event.Event.{Event}
use Rattle.history_book.specs.Replay.{Replayed}
use Rattle.history_rules.specs.Legal.{IsLegalSoFar, MayHappen, state_of}
use Rattle.history_rules.specs.State.{State}
use Rattle.session_script.specs.Script.{ScriptModel}
use Rattle.session_orders.specs.Bound.{IsBeginning}
use Rattle.session_orders.specs.Order.{AreAsked, AreOrders, HasAllOrders, IsAsked, IsOrder}
use Rattle.session_orders.specs.Place.{AllFit, place_of}
use Rattle.session_orders.specs.declared.advance.Move.{Move}
use Rattle.session_orders.specs.declared.advance.Move.TheVariants as move
use Rattle.session_orders.specs.declared.bounds.ReactorKind.{ReactorKind}

-- the history comes before what follows this beginning from this place on
abbrev pub IsBefore : ScriptModel → ReactorKind → List Event → ℕ → List Event → Type 0
IsBefore script kind [] place [] = Unit {0}
IsBefore script kind [] place (event ∷ events) = place_of script kind event < place
IsBefore script kind (passed ∷ path) place [] = Unit {0}
IsBefore script kind (passed ∷ path) place (event ∷ events) =
    (place_of script kind event < place_of script kind passed)
    ⊎ ((event ≡ passed) × IsBefore script kind path place events)

-- these are the legal whole histories that the walk has passed
pub record ArePassed (script : ScriptModel) (kind : ReactorKind) (path : List Event) (place : ℕ)
    (listed : List (List Event)) : Type 0 where
  pub orders : AreOrders script kind listed
  pub before : All (IsBefore script kind path place) listed
  pub every : (events : List Event) → IsOrder script kind events →
      IsBefore script kind path place events → Contains listed events

-- these beginnings were looked at, each once
pub record AreSeen (script : ScriptModel) (kind : ReactorKind) (path : List Event) (place : ℕ)
    (seen : List (List Event)) : Type 0 where
  pub each : All (IsBeginning script kind) seen
  pub before : All (IsBefore script kind path place) seen
  pub once : AllPairs (λ first second. first ≢ second) seen

-- a replay that has come as far as this beginning, which is legal
pub record HasCome (script : ScriptModel) (kind : ReactorKind) (replay : Replayed)
    (path : List Event) : Type 0 where
  pub same_script : replay.script ≡ script
  pub told : replay.told ≡ kind.told
  pub state : replay.state ≡ state_of script kind.told path
  pub legal : IsLegalSoFar script kind.told path
  pub asked : AreAsked kind path
  pub fits : AllFit script

-- nothing that is asked for may come behind the state at these places
abbrev pub NoneBetween : ScriptModel → ReactorKind → State → ℕ → ℕ → Type 0
NoneBetween script kind s from upto =
    (event : Event) → IsAsked kind event → MayHappen script kind.told s event →
    from ≤ place_of script kind event → place_of script kind event < upto → ⊥

-- what a step does to the histories that were passed
abbrev pub AreNowPassed : ScriptModel → ReactorKind → Move → List Event → ℕ → List (List Event) → Type 0
AreNowPassed script kind move.Entered path place listed = ArePassed script kind path place listed
AreNowPassed script kind move.Whole path place listed =
    ArePassed script kind path place (listed ++ path ∷ [])
AreNowPassed script kind move.Over path place listed = HasAllOrders script kind listed

-- and to the beginnings that were looked at
abbrev pub AreNowSeen : ScriptModel → ReactorKind → Move → List Event → ℕ → List (List Event) → Type 0
AreNowSeen script kind move.Over path place seen = Unit {0}
AreNowSeen script kind _ path place seen = AreSeen script kind path place (seen ++ path ∷ [])

-- How many legal whole histories a script has, and how many ways lead on from a state.
use Rattle.std.specs.Prelude.{◌≡◌, ◌≤◌, ◌⊎◌, ℕ, ◌+◌, ◌*◌, List, [], ◌∷◌, All, length}
use Rattle.asio_types.specs.declared.event.Event.{Event}
use Rattle.history_book.specs.Replay.{Replayed}
use Rattle.history_rules.specs.Legal.{IsLegalFrom, IsWhole, state_from}
use Rattle.history_rules.specs.State.{State}
use Rattle.session_script.specs.Script.{ScriptModel}
use Rattle.session_orders.specs.Order.{AreAsked, IsOrder}
use Rattle.session_orders.specs.Place.{place_of}
use Rattle.session_orders.specs.Walk.{HasCome}
use Rattle.session_orders.specs.declared.bounds.ReactorKind.{ReactorKind}

-- these events stand in the list
abbrev pub Has : List (List Event) → List Event → Type 0
Has [] events = ⊥
Has (first ∷ lists) events = (events ≡ first) ⊎ Has lists events

-- none stand there twice
abbrev pub AreOnce : List (List Event) → Type 0
AreOnce [] = Unit {0}
AreOnce (first ∷ lists) = (Has lists first → ⊥) × AreOnce lists

-- of all lists of events just so many are such
pub record AreJust (P : List Event → Type 0) (n : ℕ) : Type 0 where
  pub lists : List (List Event)
  pub each : (events : List Event) → Has lists events → P events
  pub once : AreOnce lists
  pub every : (events : List Event) → P events → Has lists events
  pub count : length lists ≡ n

-- a script has just so many legal whole histories
abbrev pub HasOrderCount : ScriptModel → ReactorKind → ℕ → Type 0
HasOrderCount script kind n = AreJust (IsOrder script kind) n

-- a legal way on from a state, to a whole history
pub record IsWayOn (script : ScriptModel) (kind : ReactorKind) (s : State) (events : List Event)
    : Type 0 where
  pub legal : IsLegalFrom script kind.told s events
  pub whole : IsWhole script (state_from script kind.told s events)
  pub asked : AreAsked kind events

-- some event stands first, at this place or behind it
abbrev pub StandsFrom : ScriptModel → ReactorKind → ℕ → List Event → Type 0
StandsFrom script kind place [] = ⊥
StandsFrom script kind place (event ∷ events) = place ≤ place_of script kind event

abbrev pub IsWayFrom : ScriptModel → ReactorKind → State → ℕ → List Event → Type 0
IsWayFrom script kind s place events =
    IsWayOn script kind s events × StandsFrom script kind place events

-- a state that is still to be looked at: a beginning that comes to it, its replay, and how many
-- beginnings do
pub record Reaching : Type 0 where
  pub path : List Event
  pub replay : Replayed
  pub times : ℕ

-- so many beginnings more come to it
abbrev pub with_more : ℕ → Reaching → Reaching
with_more times one = record one { times = one.times + times }

abbrev pub HaveCome : ScriptModel → ReactorKind → List Reaching → Type 0
HaveCome script kind reached = All (λ one. HasCome script kind one.replay one.path) reached

-- so many lists lead on: each of those that are such, so many times, and the rest
pub record LeadsTo (P : List Event → Type 0) (times : ℕ) (Rest : ℕ → Type 0) (n : ℕ) : Type 0 where
  pub ways : ℕ
  pub rest : ℕ
  pub just : AreJust P ways
  pub others : Rest rest
  pub sum : n ≡ times * ways + rest

-- so many legal whole histories lead through these states
abbrev pub LeadOn : ScriptModel → ReactorKind → List Reaching → ℕ → Type 0
LeadOn script kind [] n = n ≡ 0
LeadOn script kind (one ∷ others) n =
    LeadsTo (IsWayOn script kind one.replay.state) one.times (LeadOn script kind others) n

-- so many lead through a state, which so many beginnings come to, by an event at this place or
-- behind it, or through the others
abbrev pub LeadFrom : ScriptModel → ReactorKind → State → ℕ → ℕ → List Reaching → ℕ → Type 0
LeadFrom script kind s place times reached n =
    LeadsTo (IsWayFrom script kind s place) times (LeadOn script kind reached) n

-- what leads through the new states led through this one from the first place on to the other, or
-- through the old ones
abbrev pub HasMoved : ScriptModel → ReactorKind → State → ℕ → List Reaching → List Reaching → ℕ → ℕ → Type 0
HasMoved script kind s times old new from upto =
    (n : ℕ) → LeadFrom script kind s upto times new n → LeadFrom script kind s from times old n

-- what leads through the new states leads through this one, so many times, or through the old ones
abbrev pub HasJoined : ScriptModel → ReactorKind → State → ℕ → List Reaching → List Reaching → Type 0
HasJoined script kind s times old new =
    (n : ℕ) → LeadOn script kind new n →
    LeadsTo (IsWayOn script kind s) times (LeadOn script kind old) n

-- the same, where what is whole in this state was counted
abbrev pub HasPassed : ScriptModel → ReactorKind → State → ℕ → List Reaching → List Reaching → ℕ → ℕ → Type 0
HasPassed script kind s times old new counted total =
    (n : ℕ) → LeadOn script kind new n →
    (m : ℕ) × LeadsTo (IsWayOn script kind s) times (LeadOn script kind old) m
    × (total + n ≡ counted + m)

-- all legal whole histories are those that are counted and those that lead through these states
abbrev pub Leads : ScriptModel → ReactorKind → List Reaching → ℕ → Type 0
Leads script kind reached counted =
    (n : ℕ) → LeadOn script kind reached n → HasOrderCount script kind (counted + n)

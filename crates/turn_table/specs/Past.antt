-- What the seats of a table did, each at its time (this project's own).
use Rattle.std.specs.Prelude.{◌≡◌, ◌≢◌, ℕ, ◌<◌, ◌≤◌, ⊤, Option, Some, None, List, [], ◌∷◌, ◌++◌, length, slice_index, ◌==◌, if◌then◌else◌}
use mathlib.Core.Option.{some}
use lib.ListN.{get_elem?}
use Rattle.turn_table.specs.declared.place.TurnView.{TurnView}
use Rattle.turn_table.specs.Numbers.{Has}

-- a seat took a lane's turn, gave it back, or found it held by another
pub data Deed : Type 0 where
  taking : ℕ → ℕ → Deed
  giving : ℕ → ℕ → Deed
  missing : ℕ → ℕ → Deed

-- the seat that has a lane's turn after these deeds, of which the latest stands first
abbrev pub holder_in : List Deed → ℕ → Option ℕ
holder_in [] lane = None
holder_in (taking at seat ∷ past) lane = if lane == at then Some seat else holder_in past lane
holder_in (giving at seat ∷ past) lane = if lane == at then None else holder_in past lane
holder_in (missing at seat ∷ past) lane = holder_in past lane

-- a free turn is taken, a turn is given by its holder, and only a turn of another is missed
abbrev pub IsPast : List Deed → Type 0
IsPast [] = ⊤
IsPast (taking lane seat ∷ past) = (holder_in past lane ≡ None) × IsPast past
IsPast (giving lane seat ∷ past) = (holder_in past lane ≡ Some seat) × IsPast past
IsPast (missing lane seat ∷ past) =
    ((other : ℕ) × (other ≢ seat) × (holder_in past lane ≡ Some other)) × IsPast past

-- the lanes that a seat missed, in order
abbrev pub misses_in : List Deed → ℕ → List ℕ
misses_in [] seat = []
misses_in (taking lane by ∷ past) seat = misses_in past seat
misses_in (giving lane by ∷ past) seat = misses_in past seat
misses_in (missing lane by ∷ past) seat =
    if seat == by then misses_in past seat ++ lane ∷ [] else misses_in past seat

-- the words and the misses of all seats are what these deeds made of them
pub record IsPastOf (lanes : ℕ) (holder : ℕ → ℕ) (words : List ℕ) (views : List TurnView)
    (past : List Deed) : Type 0 where
  pub right : IsPast past
  pub held : (lane : ℕ) → lane < lanes → slice_index words lane ≡ 1 →
      holder_in past lane ≡ Some (holder lane)
  pub free : (lane : ℕ) → lane < lanes → slice_index words lane ≡ 0 → holder_in past lane ≡ None
  pub misses : (seat number : ℕ) (view : TurnView) → get_elem? views seat ≡ some view →
      Has view.numbers number → view.misses ≡ misses_in past seat
  pub unborn : (seat : ℕ) → length views ≤ seat → misses_in past seat ≡ []

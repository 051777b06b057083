-- How the values lie in the slots (this project's own).
use Rattle.std.specs.Prelude.{◌≡◌, ℕ, ◌<◌, ◌≤◌, List, [], ◌∷◌, ◌++◌, length, replicate, slice_index_or, vec_capacity}
use Rattle.std.specs.Global.{Vec}
use mathlib.Core.Option.{some}
use lib.ListN.{get_elem?}
use Rattle.turn_table.specs.declared.place.TablePlace.{TablePlace}
use Rattle.turn_table.specs.declared.place.TablePlace.TheVariants.{Empty, Value, Room}

module _ {T : Type 0} where
  -- the n-th value, from 0, belongs to lane n
  abbrev pub AreAtHome : (T → ℕ) → List T → Type 0
  AreAtHome home_of values =
      (n : ℕ) (other : T) → n < length values → home_of (slice_index_or values n other) ≡ n

  -- room for that many values
  pub record IsRoomFor (count : ℕ) (room : Vec T) : Type 0 where
    pub empty : room.items ≡ []
    pub fits : count ≤ vec_capacity room

  -- nothing for each lane, and then room for all values
  pub record AreBare (lanes : ℕ) (places : List (TablePlace T)) : Type 0 where
    pub room : Vec T
    pub is_room : IsRoomFor lanes room
    pub are : places ≡ replicate lanes Empty ++ Room room ∷ []

  -- each slot has its lane's value, and the last one has room for all
  pub record IsWhole (home_of : T → ℕ) (lanes : ℕ) (places : List (TablePlace T)) : Type 0 where
    pub each : (lane : ℕ) → lane < lanes →
        (value : T) × (home_of value ≡ lane) × (get_elem? places lane ≡ some (Value value))
    pub room : Vec T
    pub is_room : IsRoomFor lanes room
    pub last : get_elem? places lanes ≡ some (Room room)

  -- no slot has a value, and the last one has room for all
  pub record IsVacant (lanes : ℕ) (places : List (TablePlace T)) : Type 0 where
    pub each : (lane : ℕ) → lane < lanes → get_elem? places lane ≡ some Empty
    pub room : Vec T
    pub is_room : IsRoomFor lanes room
    pub last : get_elem? places lanes ≡ some (Room room)

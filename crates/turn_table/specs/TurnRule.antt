-- The rule of turns, over the words, the slots and the views of all seats (this project's own).
use Rattle.std.specs.Prelude.{◌≡◌, ◌≢◌, ◌⊎◌, ℕ, ◌+◌, ◌<◌, Some, List, length, slice_index}
use Rattle.std.specs.Global.{Vec}
use mathlib.Core.Option.{none, some}
use lib.ListN.{get_elem?}
use Rattle.atomic_table.specs.Table.{State}
use Rattle.turn_table.specs.declared.place.TablePlace.{TablePlace}
use Rattle.turn_table.specs.declared.place.TablePlace.TheVariants.{Empty, Value, Room}
use Rattle.turn_table.specs.declared.place.Sizes.{Sizes}
use Rattle.turn_table.specs.declared.place.TurnView.{TurnView}
use Rattle.turn_table.specs.Laid.{IsRoomFor}
use Rattle.turn_table.specs.Numbers.{Has}
use Rattle.turn_table.specs.Past.{Deed, IsPastOf}

module _ {T : Type 0} where
  -- nobody has the lane's turn: its word is 0, and its slot holds a value of that lane
  pub record IsFree (home_of : T → ℕ) (s : State (TablePlace T) TurnView) (lane : ℕ) : Type 0 where
    pub word : slice_index s.words lane ≡ 0
    pub value : T
    pub home : home_of value ≡ lane
    pub slot : get_elem? s.homes lane ≡ some (some (Value value))

  -- this seat has the lane's turn: the word is 1, and the slot is empty or in the seat's hand
  pub record IsHeldBy (s : State (TablePlace T) TurnView) (lane seat : ℕ) : Type 0 where
    pub word : slice_index s.words lane ≡ 1
    pub view : TurnView
    pub seated : get_elem? s.views seat ≡ some view
    pub turn : Has view.turns lane
    pub at_rest : view.hand ≢ Some lane → get_elem? s.homes lane ≡ some (some Empty)
    pub in_hand : view.hand ≡ Some lane → get_elem? s.homes lane ≡ some none

  pub record TurnRule (home_of : T → ℕ) (sizes : Sizes) (s : State (TablePlace T) TurnView)
      : Type 0 where
    -- the seat that has a lane's turn, where one has it, and the seat that stands for a number
    pub holder : ℕ → ℕ
    pub owner : ℕ → ℕ
    -- the words and the slots of the lanes, and one more of each
    pub words : length s.words ≡ sizes.lanes + 1
    pub slots : length s.homes ≡ sizes.lanes + 1
    -- each lane's turn is free, or one seat has it, and then no other
    pub each_lane : (lane : ℕ) → lane < sizes.lanes →
        IsFree home_of s lane ⊎ IsHeldBy s lane (holder lane)
    pub each_turn : (seat lane : ℕ) (view : TurnView) → get_elem? s.views seat ≡ some view →
        Has view.turns lane →
        (lane < sizes.lanes) × (slice_index s.words lane ≡ 1) × (seat ≡ holder lane)
    -- each number belongs to one seat, and to no other
    pub each_number : (number : ℕ) → number < sizes.seats
        → (view : TurnView) × (get_elem? s.views (owner number) ≡ some view)
        × Has view.numbers number
    pub one_owner : (seat number : ℕ) (view : TurnView) → get_elem? s.views seat ≡ some view →
        Has view.numbers number → (number < sizes.seats) × (seat ≡ owner number)
    -- a seat that has a turn stands for a number
    pub stands : (seat lane : ℕ) (view : TurnView) → get_elem? s.views seat ≡ some view →
        Has view.turns lane → (number : ℕ) × Has view.numbers number
    -- so it came about; each miss stands there, at a time when another seat had that turn
    pub past : List Deed
    pub came : IsPastOf sizes.lanes holder s.words s.views past
    -- the last slot holds room for all values
    pub room : Vec T
    pub is_room : IsRoomFor sizes.lanes room
    pub kept : get_elem? s.homes sizes.lanes ≡ some (some (Room room))

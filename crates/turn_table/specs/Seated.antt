-- What contracts see of a table of turns and of its seats, and what each call makes of a seat (this
-- project's own).
use Rattle.std.specs.Prelude.{◌≡◌, ◌≢◌, ℕ, ◌+◌, ◌<◌, None, List, [], ◌∷◌, ◌++◌, if◌then◌else◌}
use Rattle.atomic_table.specs.Seated.{TableId}
use Rattle.turn_table.specs.declared.place.Sizes.{Sizes}
use Rattle.turn_table.specs.declared.place.TurnView.{TurnView}
use Rattle.turn_table.specs.Numbers.{all_below, has, Has, without_number, greatest, run_from}

-- a table: what no other table shares with it, the count of its lanes, and how many numbers its
-- seats stand for
pub record Lanes : Type 0 where
  pub table : TableId
  pub lanes : ℕ
  pub seats : ℕ

abbrev pub lanes_at : TableId → Sizes → Lanes
lanes_at table sizes = record { table = table; lanes = sizes.lanes; seats = sizes.seats }

-- a word and a slot for each lane, and one more of each
abbrev pub IsSized : TableId → Sizes → Type 0
IsSized table sizes = (table.words ≡ sizes.lanes + 1) × (table.slots ≡ sizes.lanes + 1)

-- a seat: its table, how many numbers there are, the lanes whose turns it has, its numbers and its
-- misses
pub record Seated : Type 0 where
  pub table : TableId
  pub seats : ℕ
  pub turns : List ℕ
  pub numbers : List ℕ
  pub misses : List ℕ

abbrev pub IsSeatOf : Lanes → Seated → Type 0
IsSeatOf lanes seat = (seat.table ≡ lanes.table) × (seat.seats ≡ lanes.seats)

abbrev pub HasTurn : Seated → ℕ → Type 0
HasTurn seat = Has seat.turns

abbrev pub StandsFor : Seated → ℕ → Type 0
StandsFor seat = Has seat.numbers

abbrev pub StandsForAll : Seated → Type 0
StandsForAll seat = (number : ℕ) → number < seat.seats → StandsFor seat number

abbrev pub HasAllTurns : Lanes → Seated → Type 0
HasAllTurns lanes seat = (lane : ℕ) → lane < lanes.lanes → HasTurn seat lane

abbrev pub StandsForTwo : Seated → Type 0
StandsForTwo seat = (one other : ℕ) × (one ≢ other) × StandsFor seat one × StandsFor seat other

-- the seat of one number
abbrev pub new_turn_seat : Lanes → ℕ → Seated
new_turn_seat lanes number = record {
  table = lanes.table;
  seats = lanes.seats;
  turns = [];
  numbers = number ∷ [];
  misses = [];
}

-- the seat of all numbers
abbrev pub first_seat : Lanes → ℕ → Seated
first_seat lanes count = record {
  table = lanes.table;
  seats = lanes.seats;
  turns = [];
  numbers = run_from 0 count;
  misses = [];
}

-- the seat of all numbers, which has all turns
abbrev pub seat_of_all : Lanes → Seated
seat_of_all lanes = record (first_seat lanes lanes.seats) { turns = all_below lanes.lanes }

abbrev pub with_turn : ℕ → Seated → Seated
with_turn lane seat = record seat { turns = lane ∷ seat.turns }

abbrev pub without_turn : ℕ → Seated → Seated
without_turn lane seat = record seat { turns = without_number lane seat.turns }

-- a turn that the seat has itself is no miss
abbrev pub missed : ℕ → List ℕ → List ℕ → List ℕ
missed lane turns misses = if has lane turns then misses else misses ++ lane ∷ []

abbrev pub with_miss : ℕ → Seated → Seated
with_miss lane seat = record seat { misses = missed lane seat.turns seat.misses }

abbrev pub with_numbers_of : Seated → Seated → Seated
with_numbers_of other seat = record seat { numbers = seat.numbers ++ other.numbers }

abbrev pub without_greatest : Seated → Seated
without_greatest seat =
    record seat { numbers = without_number (greatest seat.numbers) seat.numbers }

abbrev pub greatest_alone : Seated → Seated
greatest_alone seat = record seat { turns = []; numbers = greatest seat.numbers ∷ []; misses = [] }

-- what contracts see of a seat of that table with this view
abbrev pub seated : TableId → List TurnView → Seated
seated table [] = record { table = table; seats = 0; turns = []; numbers = []; misses = [] }
seated table (view ∷ _) = record {
  table = table;
  seats = view.seats;
  turns = view.turns;
  numbers = view.numbers;
  misses = view.misses;
}

-- between two calls a seat has one view, has no slot in its hand, and stands for a number
pub record IsSeatReady (views : List TurnView) : Type 0 where
  pub view : TurnView
  pub sole : views ≡ view ∷ []
  pub hand : view.hand ≡ None
  pub number : ℕ
  pub stands : Has view.numbers number

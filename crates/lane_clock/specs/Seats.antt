-- The seats of a clock as contracts see them, this project's own.
use Rattle.std.specs.Prelude.{◌≡◌, ℕ, zero, suc, ◌+◌, ◌^◌, ◌<◌, ◌≤◌, List, [], ◌∷◌, ◌++◌, length, reverse, slice_index, true}
use Rattle.atomic_table.specs.Seated.{TableId}
use Rattle.lane_clock.specs.declared.step.ClockStep.{ClockStep}
use Rattle.lane_clock.specs.declared.step.ClockStep.TheVariants.{Place, Join}
use Rattle.lane_clock.specs.declared.step.Known.{Known}
use Rattle.lane_clock.specs.declared.step.View.{View}
use Rattle.lane_clock.specs.Layout.{Layout}
use Rattle.lane_clock.specs.Knowledge.{known_at, steps_at, StartOf, Agree, stepped_at, copy_of, joined, counts, owns_only}

-- Which clock it is
pub record ClockId : Type 0 where
  pub table : TableId
  pub plan : Layout

-- A seat of a clock, as contracts see it
pub record SeatView : Type 0 where
  pub clock : ClockId
  pub number : ℕ
  pub known : List Known

-- the seat of a table with this view
abbrev pub seen_as : TableId → View → SeatView
seen_as table v = record {
  clock = record { table = table; plan = v.plan };
  number = v.number;
  known = v.known;
}

abbrev pub new_clock_seat : ClockId → ℕ → SeatView
new_clock_seat clock n = record { clock = clock; number = n; known = owns_only n clock.plan.seats }

-- the new seats of a clock with so many numbers from one on
abbrev pub new_clock_seats : ClockId → ℕ → ℕ → List SeatView
new_clock_seats clock n zero = []
new_clock_seats clock n (suc k) = new_clock_seat clock n ∷ new_clock_seats clock (n + 1) k

-- The seats of a clock that are still to be given, from this number on
pub record SeatsLeft : Type 0 where
  pub clock : ClockId
  pub next : ℕ

abbrev pub clock_id : TableId → Layout → ClockId
clock_id table plan = record { table = table; plan = plan }

-- those that a table has left, whose giver has this view
abbrev pub left_in : TableId → View → ℕ → SeatsLeft
left_in table v next = record { clock = clock_id table v.plan; next = next }

-- all are still to be given
abbrev pub all_left : ClockId → SeatsLeft
all_left clock = record { clock = clock; next = 0 }

-- one more was given
abbrev pub one_given : SeatsLeft → SeatsLeft
one_given list = record { clock = list.clock; next = list.next + 1 }

-- these seats are left, the last is the next
pub record AreLeft (list : SeatsLeft) (seats : List SeatView) : Type 0 where
  pub order : reverse seats ≡ new_clock_seats list.clock list.next (length seats)
  pub count : list.next + length seats ≡ list.clock.plan.seats
  pub few : list.clock.plan.seats < 2 ^ 32

-- only this seat goes on with the steps under this number
abbrev pub Owns : SeatView → ℕ → Type 0
Owns seat n = (known_at seat.known n).mine ≡ true

-- what one seat owns another does
abbrev pub Keeps : SeatView → SeatView → Type 0
Keeps a b = (n : ℕ) → Owns a n → Owns b n

-- of each number what two seats know agrees: one knows the first steps of what the other knows
abbrev pub SeatsAgree : SeatView → SeatView → Type 0
SeatsAgree a b = (n : ℕ) → Agree (steps_at a.known n) (steps_at b.known n)

-- of a number that the first owns the second knows the first steps alone
abbrev pub IsSourceOf : SeatView → SeatView → Type 0
IsSourceOf a b = (n : ℕ) → Owns a n → StartOf (steps_at b.known n) (steps_at a.known n)

-- all that one knew of each number the other knows
abbrev pub Remembers : SeatView → SeatView → Type 0
Remembers a b = (n : ℕ) → StartOf (steps_at a.known n) (steps_at b.known n)

-- with the steps under all numbers
abbrev pub OwnsAll : SeatView → Type 0
OwnsAll seat = (n : ℕ) → n < seat.clock.plan.seats → Owns seat n

-- the copy of a seat
abbrev pub copy_seat : SeatView → SeatView
copy_seat seat = record { clock = seat.clock; number = seat.number; known = copy_of seat.known }

-- the seat's own steps
abbrev pub own : SeatView → List ClockStep
own seat = steps_at seat.known seat.number

-- the seat after one more step
abbrev pub after_step : SeatView → ClockStep → SeatView
after_step seat step = record {
  clock = seat.clock;
  number = seat.number;
  known = stepped_at seat.known seat.number step;
}

-- the seat after it took in what another knows
abbrev pub after_join : SeatView → List Known → SeatView
after_join seat others =
    after_step record { clock = seat.clock; number = seat.number; known = joined seat.known others }
    (Join (counts others))

-- a place of the lane was drawn that is beyond its cells
abbrev pub DrawsBeyond : List ℕ → ℕ → SeatView → SeatView → Type 0
DrawsBeyond cells lane before after =
    (place : ℕ) × (slice_index cells lane ≤ place) × (after ≡ after_step before (Place lane place))
    × (own after ≡ own before ++ Place lane place ∷ [])

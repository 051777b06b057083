-- What a seat knows after each step, and what the step tells it (this project's own).
use Rattle.std.specs.Prelude.{◌≡◌, ◌≢◌, ℕ, ◌<◌, Some, None, [], ◌∷◌, ◌++◌}
use Rattle.atomic_table.specs.Table.{Me, Step}
use Rattle.turn_table.specs.declared.place.TablePlace.{TablePlace}
use Rattle.turn_table.specs.declared.place.TablePlace.TheVariants.{Empty, Value}
use Rattle.turn_table.specs.declared.place.Sizes.{Sizes}
use Rattle.turn_table.specs.declared.place.TurnView.{TurnView}
use Rattle.turn_table.specs.Numbers.{all_below, Has, without_number, greatest, run_from}
use Rattle.turn_table.specs.Seated.{missed}

-- the first seat stands for all numbers, and has all turns
abbrev pub first_view : Sizes → TurnView
first_view sizes = record {
  turns = all_below sizes.lanes;
  numbers = run_from 0 sizes.seats;
  misses = [];
  hand = None;
  seats = sizes.seats;
}

-- the seat took the lane's turn, and has its slot in hand
abbrev pub after_take : ℕ → TurnView → TurnView
after_take lane v = record v { turns = lane ∷ v.turns; hand = Some lane }

-- it put the slot back
abbrev pub after_rest : TurnView → TurnView
after_rest v = record v { hand = None }

-- it has the slot of a lane in hand again
abbrev pub after_reach : ℕ → TurnView → TurnView
after_reach lane v = record v { hand = Some lane }

-- it gave the turn back, and the slot with it
abbrev pub after_give : ℕ → TurnView → TurnView
after_give lane v = record v { turns = without_number lane v.turns; hand = None }

-- it found the turn held
abbrev pub after_miss : ℕ → TurnView → TurnView
after_miss lane v = record v { misses = missed lane v.turns v.misses }

abbrev pub parted_left : TurnView → TurnView
parted_left v = record v { numbers = without_number (greatest v.numbers) v.numbers }

abbrev pub parted_right : TurnView → TurnView
parted_right v = record {
  turns = [];
  numbers = greatest v.numbers ∷ [];
  misses = [];
  hand = None;
  seats = v.seats;
}

abbrev pub gathered_turns : TurnView → TurnView → TurnView
gathered_turns v w = record v { numbers = v.numbers ++ w.numbers }

-- a seat that was gathered stands for nothing
abbrev pub spent_turns : TurnView
spent_turns = record { turns = []; numbers = []; misses = []; hand = None; seats = 0 }

-- a seat's view, and the slots that it has in hand
abbrev pub SeatHands : Type 0 → Type 0
SeatHands T = Me (TablePlace T) TurnView

module _ {T : Type 0} where
  -- the word was 0: the seat has the turn now, and the slot with a value of that lane in hand
  abbrev pub Took : (T → ℕ) → ℕ → SeatHands T → SeatHands T → Type 0
  Took home_of lane me after =
      (value : T) × (home_of value ≡ lane) × (¬ Has me.0.turns lane)
      × (after ≡ (after_take lane me.0, (lane, Value value) ∷ me.1))

  -- the word was 1: the turn is this seat's own, or that of a seat with a number that this one
  -- doesn't stand for
  abbrev pub Missed : ℕ → SeatHands T → SeatHands T → Type 0
  Missed lane me after =
      (after ≡ (after_miss lane me.0, me.1))
      × ((¬ Has me.0.turns lane) →
      (number : ℕ) × (number < me.0.seats) × (¬ Has me.0.numbers number))

  abbrev pub tried : (T → ℕ) → Step (TablePlace T) → SeatHands T → ℕ → SeatHands T → Type 0
  tried home_of step me found after =
      (found ≡ 0 → Took home_of step.word me after)
      × (found ≢ 0 → (found ≡ 1) × Missed step.word me after)

  abbrev pub rested : Step (TablePlace T) → SeatHands T → ℕ → SeatHands T → Type 0
  rested step me found after = after ≡ (after_rest me.0, [])

  abbrev pub reached : Step (TablePlace T) → SeatHands T → ℕ → SeatHands T → Type 0
  reached step me found after = after ≡ (after_reach step.word me.0, (step.word, Empty) ∷ [])

  abbrev pub gave : Step (TablePlace T) → SeatHands T → ℕ → SeatHands T → Type 0
  gave step me found after = after ≡ (after_give step.word me.0, [])

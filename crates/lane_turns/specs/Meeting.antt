-- One seat takes in what another knew, and what two seats know after they met, this project's own.
use Rattle.std.specs.Prelude.{◌≡◌, ◌≢◌, ℕ, ◌≤◌, [], ◌∷◌, ◌++◌, length}
use Rattle.lane_clock.specs.declared.step.ClockStep.TheVariants.{Join}
use Rattle.lane_clock.specs.Knowledge.{counts}
use Rattle.lane_clock.specs.Seats.{IsSourceOf, Keeps, Remembers, SeatView, after_join, own}
use Rattle.lane_logs.specs.Knowing.{joined_count, lists_of}
use Rattle.lane_turns.specs.Pens.{PenView}

-- what a seat knows of the other numbers its own joins took in; of its own number they took in no
-- more than it did
pub record KnowsByJoins (seat : SeatView) : Type 0 where
  pub others : (n : ℕ) → n ≢ seat.number → joined_count n (own seat) ≡ length (lists_of seat n)
  pub itself : joined_count seat.number (own seat) ≤ length (own seat)

-- the seat took in what another knew
pub record HasMet (other old new : SeatView) : Type 0 where
  pub seat : new ≡ after_join old other.known
  pub steps : own new ≡ own old ++ Join (counts other.known) ∷ []
  pub keeps : Keeps old new
  pub whole : IsSourceOf old other
  pub remembers : Remembers old new
  pub learns : Remembers other new

-- and so did the seat of a pen, which logs nothing of it
pub record PenHasMet (other : SeatView) (old new : PenView) : Type 0 where
  pub met : HasMet other old.seat new.seat
  pub log : new.log ≡ old.log
  pub room : new.room ≡ old.room

-- What a seat knew of another when it made a step, by its own steps alone, and the steps that it knows in the end,
-- this project's own.
use Rattle.std.specs.Prelude.{ℕ, List, [], ◌∷◌, max, slice_index, take}
use Rattle.lane_clock.specs.declared.step.ClockStep.{ClockStep}
use Rattle.lane_clock.specs.declared.step.ClockStep.TheVariants.{Draw, Load, Place, Put, Look, Join}
use Rattle.lane_clock.specs.Knowledge.{steps_at}
use Rattle.lane_clock.specs.Seats.{SeatView}

-- how many steps of a number were taken in by some steps
abbrev pub joined_count : ℕ → List ClockStep → ℕ
joined_count n [] = 0
joined_count n (Draw shown change found ∷ steps) = joined_count n steps
joined_count n (Load found ∷ steps) = joined_count n steps
joined_count n (Place lane place ∷ steps) = joined_count n steps
joined_count n (Put lane place note ∷ steps) = joined_count n steps
joined_count n (Look lane place held ∷ steps) = joined_count n steps
joined_count n (Join counts ∷ steps) = max (slice_index counts n) (joined_count n steps)

-- of all steps of a number those that were known after some steps
abbrev pub known_steps : List ClockStep → ℕ → List ClockStep → List ClockStep
known_steps all n steps = take (joined_count n steps) all

-- of each number the steps that a seat knows
abbrev pub lists_of : SeatView → ℕ → List ClockStep
lists_of seat n = steps_at seat.known n

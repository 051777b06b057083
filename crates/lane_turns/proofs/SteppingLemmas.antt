-- A lane's seat after steps of its own: what it knows of the opener stays.
use Rattle.std.proofs.Common.{◌≡◌, ◌≢◌, ℕ, ◌<◌, List, [], ◌∷◌, ◌++◌, length, refl, ap, ◌∙◌, arith}
use Rattle.std.specs.Prelude.{max, slice_index, take}
use Rattle.std.proofs.Math.Seq.{take-length}
use Rattle.session_script.specs.Script.{ScriptModel}
use Rattle.lane_clock.specs.declared.step.ClockStep.{ClockStep}
use Rattle.lane_clock.specs.declared.step.ClockStep.TheVariants.{Draw, Load, Place, Put, Look, Join}
use Rattle.lane_clock.specs.declared.step.Known.{Known}
use Rattle.lane_clock.specs.Knowledge.{known_at, steps_at}
use Rattle.lane_clock.specs.Seats.{SeatView, after_step}
use Rattle.lane_clock.proofs.SeatLemmas.{step_other}
use Rattle.lane_logs.specs.Knowing.{joined_count, known_steps}
use Rattle.lane_logs.specs.Labels.{Labelled, steps_in}
use Rattle.lane_logs.specs.SeatNumbers.{lane_count, opener_seat}
use Rattle.lane_turns.specs.Batons.{opener_known}
use Rattle.lane_turns.specs.Pens.{HasGone, PenView, after_steps}

pub stepped_known : (seat : SeatView) (steps : List ClockStep) (n : ℕ) → n ≢ seat.number →
    known_at (after_steps seat steps).known n ≡ known_at seat.known n
stepped_known seat [] n ne = refl
stepped_known seat (step ∷ steps) n ne = stepped_known (after_step seat step) steps n ne ∙ step_other seat step n ne

pub stepped_number : (seat : SeatView) (steps : List ClockStep) → (after_steps seat steps).number ≡ seat.number
stepped_number seat [] = refl
stepped_number seat (step ∷ steps) = stepped_number (after_step seat step) steps

-- steps of a lane's own leave what it knows of the opener
pub opener_same : (script : ScriptModel) (lane : ℕ) (labels : List Labelled) (old new : PenView) →
    old.seat.number ≡ lane → lane < lane_count script → HasGone labels old new →
    opener_known script new.seat ≡ opener_known script old.seat
opener_same script lane labels old new number there gone =
    ap (λ (seat : SeatView). steps_at seat.known (opener_seat script)) gone.seat
    ∙ ap (λ (known : Known). known.steps)
    (stepped_known old.seat (steps_in labels) (opener_seat script) (λ same. absurd (omega (arith, same, number, there))))

-- steps without a join take nothing in
pub joined_on : (n : ℕ) (xs ys : List ClockStep) → joined_count n ys ≡ 0 →
    joined_count n (xs ++ ys) ≡ joined_count n xs
joined_on n [] ys none = none
joined_on n (Draw shown change found ∷ xs) ys none = joined_on n xs ys none
joined_on n (Load found ∷ xs) ys none = joined_on n xs ys none
joined_on n (Place lane place ∷ xs) ys none = joined_on n xs ys none
joined_on n (Put lane place note ∷ xs) ys none = joined_on n xs ys none
joined_on n (Look lane place held ∷ xs) ys none = joined_on n xs ys none
joined_on n (Join counts ∷ xs) ys none = ap (max (slice_index counts n)) (joined_on n xs ys none)

-- where all was taken in, all is known
pub knows_all : (n : ℕ) (all steps : List ClockStep) → joined_count n steps ≡ length all →
    known_steps all n steps ≡ all
knows_all n all steps same = ap (λ count. take count all) same ∙ take-length all

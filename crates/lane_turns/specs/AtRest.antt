-- A context at rest, after its workers: nobody makes a step any more, so what its cells hold is final,
-- also where the reactor failed (Asio reference, io_context::~io_context; the means are this project's
-- own).
use Rattle.std.specs.Prelude.{◌≡◌, ◌≢◌, ℕ, List, ◌++◌, All}
use Rattle.session_script.specs.Script.{ScriptModel}
use Rattle.lane_clock.specs.declared.step.ClockStep.{ClockStep}
use Rattle.lane_clock.specs.declared.step.ClockStep.TheVariants.{Draw, Load, Place, Put, Look, Join}
use Rattle.lane_clock.specs.Knowledge.{StartOf}
use Rattle.lane_clock.specs.Seats.{SeatView, own}
use Rattle.lane_logs.specs.Knowing.{lists_of}
use Rattle.lane_logs.specs.SeatNumbers.{opener_seat}
use Rattle.lane_turns.specs.Openers.{OpenerView}
use Rattle.lane_turns.specs.Pens.{PenView}
use Rattle.lane_turns.specs.Workers.{WorkerView}

-- what is known of all steps, the workers as they were left, and how many steps the opener had made
-- when the context came to rest
pub record RestView : Type 0 where
  pub known : SeatView
  pub workers : List WorkerView
  pub since : ℕ

-- of each number the steps that are known
abbrev pub rest_lists : RestView → ℕ → List ClockStep
rest_lists view = lists_of view.known

abbrev pub IsLook : ClockStep → Type 0
IsLook (Draw shown changes found) = ⊥
IsLook (Load found) = ⊥
IsLook (Place lane place) = ⊥
IsLook (Put lane place note) = ⊥
IsLook (Look lane place held) = Unit {0}
IsLook (Join counts) = ⊥

-- the opener looked at cells, and nothing else was done
pub record HasOnlyLooked (script : ScriptModel) (old new : RestView) : Type 0 where
  pub looks : List ClockStep
  pub are : All IsLook looks
  pub mine : rest_lists new (opener_seat script) ≡ rest_lists old (opener_seat script) ++ looks
  pub others : (n : ℕ) → n ≢ opener_seat script → rest_lists new n ≡ rest_lists old n
  pub workers : new.workers ≡ old.workers
  pub since : new.since ≡ old.since

-- the opener knows all that was done with these pens
abbrev pub HasHeardPens : OpenerView → List PenView → Type 0
HasHeardPens opener pens =
    All (λ pen. StartOf (own pen.seat) (lists_of opener.pen.seat pen.seat.number)) pens

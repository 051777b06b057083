-- Where the steps of all others stood when the opener drew an event: it had taken in all of them
-- before, and each other's next step takes in that event. So no part of a log lies across it (Asio
-- reference, io_context::restart; the means are this project's own).
use Rattle.std.specs.Prelude.{◌≡◌, ℕ, suc, ◌<◌, List, Some, All, Bool, true, false, slice_index, take}
use lib.ListN.{get_elem?}
use mathlib.Core.Option.{some}
use Rattle.asio_types.specs.declared.event.Event.{Event}
use Rattle.session_script.specs.Script.{ScriptModel}
use Rattle.lane_clock.specs.declared.found.Change.{Change}
use Rattle.lane_clock.specs.declared.found.Change.TheVariants as change
use Rattle.lane_clock.specs.declared.found.Found.{Found}
use Rattle.lane_clock.specs.declared.note.Note.{Note}
use Rattle.lane_clock.specs.declared.step.ClockStep.{ClockStep}
use Rattle.lane_clock.specs.declared.step.ClockStep.TheVariants.{Draw, Load, Place, Put, Look, Join}
use Rattle.lane_clock.specs.Rule.{StepAt}
use Rattle.lane_logs.specs.Knowing.{joined_count}
use Rattle.lane_logs.specs.SeatNumbers.{opener_seat}
use Rattle.lane_logs.specs.Stand.{stand_of}

-- the opener's step j draws an event that all others take in: the last of `open`, or one that
-- restarts or closes a round
pub record IsEventAt (script : ScriptModel) (lists : ℕ → List ClockStep) (j : ℕ) : Type 0 where
  pub shown : Event
  pub changes : Change
  pub found : Found
  pub drawn : StepAt lists (opener_seat script) j (Draw shown changes found)
  pub opened : (stand_of script (take (suc j) (lists (opener_seat script)))).opening ≡ 0

-- how many steps of a number the opener had taken in before its step j
abbrev pub steps_before : ScriptModel → (ℕ → List ClockStep) → ℕ → ℕ → ℕ
steps_before script lists j n = joined_count n (take j (lists (opener_seat script)))

-- the next step of the number takes in the opener's step j
pub record IsCut (script : ScriptModel) (lists : ℕ → List ClockStep) (j n : ℕ) : Type 0 where
  pub counts : List ℕ
  pub joins : StepAt lists n (steps_before script lists j n) (Join counts)
  pub knows : j < slice_index counts (opener_seat script)

-- every event of the opener is a cut of each other number
abbrev pub EventsAreCuts : ScriptModel → (ℕ → List ClockStep) → Type 0
EventsAreCuts script lists =
    (j n : ℕ) → IsEventAt script lists j → n < opener_seat script → IsCut script lists j n

-- the note at a place of a lane was seen, and behind it the lane loaded and drew: so it was executed
-- or taken
pub record HasStarted (steps : List ClockStep) (lane place : ℕ) : Type 0 where
  pub at : ℕ
  pub note : Note
  pub load : Found
  pub shown : Event
  pub changes : Change
  pub found : Found
  pub sees : get_elem? steps at ≡ some (Look lane place (Some note))
  pub loads : get_elem? steps (suc at) ≡ some (Load load)
  pub draws : get_elem? steps (suc (suc at)) ≡ some (Draw shown changes found)

-- the notes at the first places of a lane were executed or taken
abbrev pub HaveStarted : List ClockStep → ℕ → ℕ → Type 0
HaveStarted steps lane count = (place : ℕ) → place < count → HasStarted steps lane place

abbrev pub is_stop_change : Change → Bool
is_stop_change change.Same = false
is_stop_change change.Up = false
is_stop_change change.Down = false
is_stop_change change.DownTwo = false
is_stop_change change.Stop = true

abbrev pub is_stop_draw : ClockStep → Bool
is_stop_draw (Draw shown changes found) = is_stop_change changes
is_stop_draw (Load found) = false
is_stop_draw (Place lane place) = false
is_stop_draw (Put lane place note) = false
is_stop_draw (Look lane place held) = false
is_stop_draw (Join counts) = false

-- none of these steps stops the context: of the reactor's, it hasn't failed
abbrev pub NoneStops : List ClockStep → Type 0
NoneStops steps = All (λ step. is_stop_draw step ≡ false) steps

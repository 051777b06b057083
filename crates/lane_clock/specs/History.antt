-- The one history of a clock, this project's own: all steps of all seats, the newest first. The list
-- of each number and the words are parts of it, and each step finds what the older steps left. The
-- rule of the clock follows from it.
use Rattle.std.specs.Prelude.{◌≡◌, ℕ, ◌+◌, ◌*◌, ◌%◌, ◌^◌, ◌<◌, ◌≤◌, List, [], ◌∷◌, ◌++◌, length, slice_index, ◌==◌, ◌&&◌, if◌then◌else◌, Option, Some, None}
use lib.ListN.{get_elem?}
use mathlib.Core.Option.{some}
use Rattle.lane_clock.specs.declared.note.Note.{Note}
use Rattle.lane_clock.specs.declared.step.ClockStep.{ClockStep}
use Rattle.lane_clock.specs.declared.step.ClockStep.TheVariants.{Draw, Load, Place, Put, Look, Join}
use Rattle.lane_clock.specs.ClockWord.{amount, found_of}
use Rattle.lane_clock.specs.NoteWord.{IsNote}
use Rattle.lane_clock.specs.Steps.{draw_count, MayDraw, MayPlace}
use Rattle.lane_clock.specs.Rule.{ClockWords}

-- a step, and under which number it was made
pub record ClockEvent : Type 0 where
  pub by : ℕ
  pub step : ClockStep

-- the steps under a number, the oldest first
abbrev pub steps_under : ℕ → List ClockEvent → List ClockStep
steps_under n [] = []
steps_under n (e ∷ es) = if n == e.by then steps_under n es ++ e.step ∷ [] else steps_under n es

-- the clock word after a step, and after all
abbrev pub word_with : ClockStep → ℕ → ℕ
word_with (Draw shown change found) w = (w + amount change) % 2 ^ 64
word_with (Load found) w = w
word_with (Place lane place) w = w
word_with (Put lane place note) w = w
word_with (Look lane place held) w = w
word_with (Join counts) w = w

abbrev pub word_after : ℕ → List ClockEvent → ℕ
word_after guards [] = guards * 2 ^ 32
word_after guards (e ∷ es) = word_with e.step (word_after guards es)

-- how many positions were drawn
abbrev pub drawn : List ClockEvent → ℕ
drawn [] = 0
drawn (e ∷ es) = draw_count e.step + drawn es

-- how many places of a lane were drawn
abbrev pub places_with : ℕ → ClockStep → ℕ → ℕ
places_with lane (Draw shown change found) k = k
places_with lane (Load found) k = k
places_with lane (Place at place) k = if lane == at then k + 1 else k
places_with lane (Put at place note) k = k
places_with lane (Look at place held) k = k
places_with lane (Join counts) k = k

abbrev pub places_after : ℕ → List ClockEvent → ℕ
places_after lane [] = 0
places_after lane (e ∷ es) = places_with lane e.step (places_after lane es)

-- what a cell holds
abbrev pub cell_with : ℕ → ℕ → ClockStep → Option Note → Option Note
cell_with lane place (Draw shown change found) held = held
cell_with lane place (Load found) held = held
cell_with lane place (Place at p) held = held
cell_with lane place (Put at p note) held = if (lane == at) && (place == p) then Some note else held
cell_with lane place (Look at p found) held = held
cell_with lane place (Join counts) held = held

abbrev pub cell_after : ℕ → ℕ → List ClockEvent → Option Note
cell_after lane place [] = None
cell_after lane place (e ∷ es) = cell_with lane place e.step (cell_after lane place es)

-- The step under the number n may come next: it finds what the words hold
abbrev pub Fits : ℕ → List ClockEvent → ℕ → ClockStep → Type 0
Fits guards es n (Draw shown change found) =
    (found ≡ found_of (word_after guards es)) × MayDraw (steps_under n es)
Fits guards es n (Load found) = found ≡ found_of (word_after guards es)
Fits guards es n (Place lane place) = (place ≡ places_after lane es) × MayPlace (steps_under n es)
Fits guards es n (Put lane place note) =
    ((i : ℕ) × (get_elem? (steps_under n es) i ≡ some (Place lane place)))
    × (cell_after lane place es ≡ None) × IsNote note
Fits guards es n (Look lane place note) = note ≡ cell_after lane place es
Fits guards es n (Join counts) = (m : ℕ) → slice_index counts m ≤ length (steps_under m es)

abbrev pub IsSoundHistory : ℕ → ℕ → List ClockEvent → Type 0
IsSoundHistory guards seats [] = Unit {0}
IsSoundHistory guards seats (e ∷ es) =
    IsSoundHistory guards seats es × (e.by < seats) × Fits guards es e.by e.step

-- what the words hold after a history
abbrev pub words_after : ℕ → List ClockEvent → ClockWords
words_after guards es = record {
  clock_word = word_after guards es;
  places = λ lane. places_after lane es;
  cells = λ lane place. cell_after lane place es;
}

-- When the i-th step under a number was made. What is older was a history, and the step fitted it
pub record IsMadeIn (guards seats : ℕ) (history : List ClockEvent) (n i : ℕ) (step : ClockStep)
    : Type 0 where
  pub newer : List ClockEvent
  pub older : List ClockEvent
  pub parts : history ≡ newer ++ record { by = n; step = step } ∷ older
  pub index : i ≡ length (steps_under n older)
  pub sound : IsSoundHistory guards seats older
  pub fits : Fits guards older n step

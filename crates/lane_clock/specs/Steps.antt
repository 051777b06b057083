-- What one seat did, this project's own: how often it drew, which places it drew and which cells it
-- put.
use Rattle.std.specs.Prelude.{ℕ, ◌+◌, ◌<◌, List, [], ◌∷◌, Bool, false, ◌||◌, ◌&&◌, ◌==◌}
use Rattle.lane_clock.specs.declared.step.ClockStep.{ClockStep}
use Rattle.lane_clock.specs.declared.step.ClockStep.TheVariants.{Draw, Load, Place, Put, Look, Join}

-- a draw of a position counts, or a draw of a place
abbrev pub draw_count : ClockStep → ℕ
draw_count (Draw shown change found) = 1
draw_count (Load found) = 0
draw_count (Place lane place) = 0
draw_count (Put lane place note) = 0
draw_count (Look lane place held) = 0
draw_count (Join others) = 0

abbrev pub place_count : ClockStep → ℕ
place_count (Draw shown change found) = 0
place_count (Load found) = 0
place_count (Place lane place) = 1
place_count (Put lane place note) = 0
place_count (Look lane place held) = 0
place_count (Join others) = 0

-- whether the step drew this place, and whether it put this cell
abbrev pub is_place : ℕ → ℕ → ClockStep → Bool
is_place lane place (Draw shown change found) = false
is_place lane place (Load found) = false
is_place lane place (Place at p) = (lane == at) && (place == p)
is_place lane place (Put at p note) = false
is_place lane place (Look at p held) = false
is_place lane place (Join others) = false

abbrev pub is_put : ℕ → ℕ → ClockStep → Bool
is_put lane place (Draw shown change found) = false
is_put lane place (Load found) = false
is_put lane place (Place at p) = false
is_put lane place (Put at p note) = (lane == at) && (place == p)
is_put lane place (Look at p held) = false
is_put lane place (Join others) = false

-- whether one of the steps did
abbrev pub has_drawn : ℕ → ℕ → List ClockStep → Bool
has_drawn lane place [] = false
has_drawn lane place (s ∷ ss) = is_place lane place s || has_drawn lane place ss

abbrev pub has_put : ℕ → ℕ → List ClockStep → Bool
has_put lane place [] = false
has_put lane place (s ∷ ss) = is_put lane place s || has_put lane place ss

-- how many of the steps are counted
abbrev pub step_count : (ClockStep → ℕ) → List ClockStep → ℕ
step_count f [] = 0
step_count f (s ∷ ss) = f s + step_count f ss

-- how many positions a seat draws at most, and how many places; so the clock never wraps
abbrev pub most_draws : ℕ
most_draws = 65536

-- one more may be drawn
abbrev pub MayDraw : List ClockStep → Type 0
MayDraw steps = step_count draw_count steps < most_draws

abbrev pub MayPlace : List ClockStep → Type 0
MayPlace steps = step_count place_count steps < most_draws

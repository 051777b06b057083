-- What the first draws changed, this project's own.
use Rattle.std.specs.Prelude.{◌≡◌, ℕ, zero, suc, ◌+◌, ◌-◌, ◌^◌, ◌<◌, ◌≤◌, List}
use Rattle.lane_clock.specs.declared.found.Found.{Found}
use Rattle.lane_clock.specs.declared.found.Change.{Change}
use Rattle.lane_clock.specs.declared.found.Change.TheVariants.{Same, Up, Down, DownTwo, Stop}
use Rattle.lane_clock.specs.declared.step.ClockStep.{ClockStep}
use Rattle.lane_clock.specs.Rule.{Draws}

-- f 0 + .. + f (n - 1)
abbrev pub sum_below : (ℕ → ℕ) → ℕ → ℕ
sum_below f zero = 0
sum_below f (suc n) = f n + sum_below f n

-- what a change adds to work and takes from it, and how many stops it adds
abbrev pub up_of : Change → ℕ
up_of Same = 0
up_of Up = 1
up_of Down = 0
up_of DownTwo = 0
up_of Stop = 0

abbrev pub down_of : Change → ℕ
down_of Same = 0
down_of Up = 0
down_of Down = 1
down_of DownTwo = 2
down_of Stop = 0

abbrev pub stop_of : Change → ℕ
stop_of Same = 0
stop_of Up = 0
stop_of Down = 0
stop_of DownTwo = 0
stop_of Stop = 1

-- the draws of the clocks below n made these changes
abbrev pub ChangesAre : (ℕ → List ClockStep) → (ℕ → Change) → ℕ → Type 0
ChangesAre lists changes n =
    (k : ℕ) → k < n →
    (m : ℕ) × (i : ℕ) × (found : Found) × Draws lists m i (changes k) found × (found.clock ≡ k)

-- work after the guards and the first n changes
abbrev pub ups_below : (ℕ → Change) → ℕ → ℕ
ups_below changes n = sum_below (λ k. up_of (changes k)) n

abbrev pub downs_below : (ℕ → Change) → ℕ → ℕ
downs_below changes n = sum_below (λ k. down_of (changes k)) n

abbrev pub stops_below : (ℕ → Change) → ℕ → ℕ
stops_below changes n = sum_below (λ k. stop_of (changes k)) n

-- Work and stops of the first n changes fit their parts of the word
pub record ChangesFit (guards : ℕ) (changes : ℕ → Change) (n : ℕ) : Type 0 where
  pub down : downs_below changes n ≤ guards + ups_below changes n
  pub work : guards + ups_below changes n - downs_below changes n < 2 ^ 16
  pub stops : stops_below changes n < 2 ^ 16

-- the parts found are those of the first n changes
pub record AddsUp (guards : ℕ) (changes : ℕ → Change) (n : ℕ) (found : Found) : Type 0 where
  pub clock : found.clock ≡ n
  pub work : found.work ≡ guards + ups_below changes n - downs_below changes n
  pub stops : found.stops ≡ stops_below changes n

-- the parts after a draw
abbrev pub parts_with : Change → Found → Found
parts_with change f = record {
  clock = f.clock + 1;
  work = f.work + up_of change - down_of change;
  stops = f.stops + stop_of change;
}

-- After a draw each part stays within its bounds
pub record StayParted (change : Change) (f : Found) : Type 0 where
  pub clock : f.clock + 1 < 2 ^ 32
  pub down : down_of change ≤ f.work + up_of change
  pub work : f.work + up_of change - down_of change < 2 ^ 16
  pub stops : f.stops + stop_of change < 2 ^ 16

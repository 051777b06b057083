-- What a closed clock gives, this project's own.
use Rattle.std.specs.Prelude.{◌≡◌, ℕ, ◌<◌, ◌≤◌, List}
use Rattle.lane_clock.specs.declared.found.Found.{Found}
use Rattle.lane_clock.specs.declared.step.ClockStep.{ClockStep}
use Rattle.lane_clock.specs.Layout.{Layout, most_seats}
use Rattle.lane_clock.specs.ClockWord.{word_of, IsParted}
use Rattle.lane_clock.specs.History.{ClockEvent, steps_under, word_after, words_after, IsSoundHistory}
use Rattle.lane_clock.specs.Rule.{ClockRule}

-- A clock of this layout that is closed. There is one history of all steps, of which the lists are
-- the parts under each number; it left a clock word with these parts; and the lists meet the rule
pub record Closed (lists : ℕ → List ClockStep) (plan : Layout) (last : Found) : Type 0 where
  pub few : (plan.seats ≤ most_seats) × (plan.guards < most_seats)
  pub history : List ClockEvent
  pub sound : IsSoundHistory plan.guards plan.seats history
  pub all : (n : ℕ) → lists n ≡ steps_under n history
  pub word : word_after plan.guards history ≡ word_of last
  pub parts : IsParted last
  pub rule : ClockRule lists (words_after plan.guards history) plan.guards

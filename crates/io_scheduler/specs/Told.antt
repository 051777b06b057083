-- What is told of a history.
use Rattle.std.specs.Prelude.{◌≡◌, ◌||◌, ℕ, Bool, false, List, [], ◌∷◌, Some}
use Rattle.io_rules.specs.declared.event.Event.{Event}
use Rattle.io_rules.specs.History.{calls}
use Rattle.io_history.specs.declared.view.Held.{Held}
use Rattle.io_scheduler.specs.Running.{Execution}

-- it came last
pub record IsNewest (e : Event) (told : List Event) : Type 0 where
  pub before : List Event
  pub is : told ≡ e ∷ before

-- the call of this operation is among these events
abbrev pub is_call_in : ℕ → List Event → Bool
is_call_in op [] = false
is_call_in op (e ∷ past) = calls op e || is_call_in op past

-- what is held has the lane that is shown
abbrev pub IsOnLane : Execution → Type 0
IsOnLane runs = (held : Held) → runs.held ≡ Some held → held.is.lane ≡ runs.lane

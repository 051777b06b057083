-- That the reactor has each pending operation to complete exactly once.
use Rattle.std.specs.Prelude.{◌≡◌, ℕ, if◌then◌else◌}
use Rattle.history_rules.specs.State.{State}
use Rattle.reactor_turns.specs.Standing.{stands}
use Rattle.execution_laws.specs.Work.{is_pending}

-- once, where it is pending
abbrev pub IsStanding : State → Type 0
IsStanding s = (n : ℕ) → stands n s.reactor ≡ (if is_pending s n then 1 else 0)

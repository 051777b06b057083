use Rattle.std.specs.Prelude.{◌≡◌, length}
use Rattle.io_context.proofs.executing.retire_those.Given as goal

abbrev pub invariant-states : goal.invariant-states
invariant-states g l = l.staging ≡ record l.fn.staging { retired = l.staging.retired }

abbrev pub decreases-states : goal.decreases-states
decreases-states g l = length l.staging.retired

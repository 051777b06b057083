use Rattle.std.proofs.Common.{length, ◌-◌, ◌⊎◌}
use Rattle.std.specs.List.{Contains}
use Rattle.run_forced.specs.declared.clock.Seen.{Seen}
use Rattle.run_forced.proofs.clock.keep_below.Given as goal

abbrev pub invariant-loop-at : goal.invariant-loop-at
invariant-loop-at l = (seen : Seen) → Contains l.kept.items seen → Contains l.initial.kept.items seen ⊎ Contains l.all seen

abbrev pub decreases-loop-at : goal.decreases-loop-at
decreases-loop-at l = length l.all - l.at

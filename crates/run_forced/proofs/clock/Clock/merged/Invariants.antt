use Rattle.std.proofs.Common.{◌⊎◌}
use Rattle.std.specs.List.{Contains}
use Rattle.run_forced.specs.Clocks.{names}
use Rattle.run_forced.specs.declared.clock.Seen.{Seen}
use Rattle.run_forced.proofs.clock.Clock.merged.Given as goal

abbrev pub invariant-loop-seen : goal.invariant-loop-seen
invariant-loop-seen l = (seen : Seen) → Contains l.kept.items seen → names l.self seen ⊎ Contains l.other seen

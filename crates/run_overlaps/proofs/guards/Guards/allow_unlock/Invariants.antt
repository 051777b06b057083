use Rattle.std.proofs.Common.{take}
use Rattle.std.specs.List.{All}
use Rattle.run_overlaps.specs.Guarding.{IsGivenBack}
use Rattle.run_overlaps.proofs.guards.Guards.allow_unlock.Given as goal

abbrev pub invariant-loop-under : goal.invariant-loop-under
invariant-loop-under l = All (IsGivenBack l.watch l.by l.lock) (take l.under-index l.self.locked.items)

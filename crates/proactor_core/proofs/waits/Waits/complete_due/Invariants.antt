use Rattle.std.proofs.Common.{length}
use Rattle.proactor_core.specs.Waits.{expired, has_expired}
use Rattle.proactor_core.proofs.DrainLemmas.{IsDrainedTo}
use Rattle.proactor_core.proofs.waits.Waits.complete_due.Given as goal

abbrev pub invariant-loop-op : goal.invariant-loop-op
invariant-loop-op l =
    IsDrainedTo (has_expired l.now l.initial.self.expiries) (expired l.now) l.initial.self l.self l.initial.due l.due

abbrev pub decreases-loop-op : goal.decreases-loop-op
decreases-loop-op l = length l.self.waits

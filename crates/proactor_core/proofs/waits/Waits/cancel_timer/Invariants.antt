use Rattle.std.proofs.Common.{length}
use Rattle.history_rules.specs.Performing.{is_wait_of}
use Rattle.proactor_core.specs.Waits.{aborts}
use Rattle.proactor_core.proofs.DrainLemmas.{IsDrainedTo}
use Rattle.proactor_core.proofs.waits.Waits.cancel_timer.Given as goal

abbrev pub invariant-loop-op : goal.invariant-loop-op
invariant-loop-op l =
    IsDrainedTo (is_wait_of l.timer) (aborts (is_wait_of l.timer)) l.initial.self l.self l.initial.due l.due

abbrev pub decreases-loop-op : goal.decreases-loop-op
decreases-loop-op l = length l.self.waits

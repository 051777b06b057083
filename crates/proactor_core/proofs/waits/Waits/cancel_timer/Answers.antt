use Rattle.std.proofs.Common.{◌∙◌}
use Rattle.history_rules.specs.Performing.{is_wait_of}
use Rattle.proactor_core.specs.Waits.{aborts}
use Rattle.proactor_core.proofs.DrainLemmas.{drain-waits}
use Rattle.proactor_core.proofs.waits.Waits.cancel_timer.Goals as goal

pub returns-clause-waits : goal.returns-clause-waits
returns-clause-waits c =
    c.in_default.ensures.unchanged
    ∙ drain-waits (is_wait_of c.args.timer) (aborts (is_wait_of c.args.timer)) c.args.self.now c.args.due.now
    c.loop-op.self c.loop-op.due c.loop-op.invariant c.in_default.ensures.none

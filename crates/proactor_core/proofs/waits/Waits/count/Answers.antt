use Rattle.std.proofs.Common.{length, ap, sym, ◌∙◌}
use Rattle.proactor_core.specs.Waits.{Waiting}
use Rattle.proactor_core.proofs.WaitLemmas.{length-waits}
use Rattle.proactor_core.proofs.waits.Waits.count.Goals as goal

pub returns : goal.returns
returns c =
    sym c.self.invariant.count ∙ sym (length-waits c.self.inside.timer_of.items c.self.inside.queue.waits)
    ∙ ap (λ (w : Waiting). length w.waits) c.self.view_is

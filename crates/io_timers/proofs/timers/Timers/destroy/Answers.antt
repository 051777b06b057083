use Rattle.std.proofs.Common.{ap, ◌∙◌}
use Rattle.io_timers.specs.Pending.{Timers}
use Rattle.io_timers.proofs.TimersLemmas.{empty_queues}
use Rattle.io_timers.proofs.timers.Timers.destroy.Goals as goal

pub destroy-requires : goal.destroy-requires
destroy-requires g c = empty_queues _ (ap (λ (t : Timers _). t.waits) c.self.view_is ∙ c.requires)

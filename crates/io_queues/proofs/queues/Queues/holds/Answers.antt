use Rattle.io_queues.proofs.WholeLemmas.{is_whole}
use Rattle.io_queues.proofs.queues.Queues.holds.Goals as goal

pub returns : goal.returns
returns g c = rw (← c.self.view_is) (is_whole _ _ _ _ _ c.self.invariant)

use Rattle.io_scheduler.proofs.ToldLemmas.{on_its_lane}
use Rattle.io_scheduler.proofs.running.Running.learn.Goals as goal

pub returns : goal.returns
returns g c =
    rw (← c.self.view_is)
    (on_its_lane c.self.inside.op c.self.inside.lane c.self.inside.own c.self.inside.grant c.self.inside.spares
    c.self.inside.claim.held c.self.invariant)

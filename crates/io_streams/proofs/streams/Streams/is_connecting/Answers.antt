use Rattle.io_rules.specs.declared.operation.Side.TheVariants as side
use Rattle.io_streams.proofs.CallLemmas.{connects_are, fits, queued}
use Rattle.io_streams.proofs.streams.Streams.is_connecting.Goals as goal

pub queue_of-requires : goal.queue_of-requires
queue_of-requires g c = fits _ _ c.self.invariant c.args.name (rw (← c.self.view_is) at c.requires)

pub first-requires : goal.first-requires
first-requires g c =
    queued _ _ c.self.invariant c.args.name (rw (← c.self.view_is) at c.requires) side.Connect c.queue_of.result
    c.queue_of.ensures

pub returns : goal.returns
returns g c =
    rw (← c.self.view_is, c.is_some.ensures)
    (connects_are _ _ c.self.invariant c.args.name (rw (← c.self.view_is) at c.requires) c.first.result
    (rw c.queue_of.ensures at c.first.ensures))

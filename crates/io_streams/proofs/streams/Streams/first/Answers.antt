use Rattle.io_streams.proofs.CallLemmas.{fits, queued}
use Rattle.io_streams.proofs.LeftLemmas.{first_head, first_isnt, first_there}
use Rattle.io_streams.proofs.streams.Streams.first.Goals as goal

pub queue_of-requires : goal.queue_of-requires
queue_of-requires g c = fits _ _ c.self.invariant c.args.name (rw (← c.self.view_is) at c.requires)

pub first-requires : goal.first-requires
first-requires g c =
    queued _ _ c.self.invariant c.args.name (rw (← c.self.view_is) at c.requires) c.args.side c.queue_of.result
    c.queue_of.ensures

pub returns-clause-there : goal.returns-clause-there
returns-clause-there g c =
    rw (← c.self.view_is) (first_there _ _ c.self.invariant c.queue_of.result c.first.result c.first.ensures)

pub returns-clause-head : goal.returns-clause-head
returns-clause-head g c =
    rw (← c.self.view_is)
    (first_head _ _ c.self.invariant c.args.name c.args.side _ c.first.result (rw c.queue_of.ensures at c.first.ensures))

pub returns-clause-none : goal.returns-clause-none
returns-clause-none g c =
    rw (← c.self.view_is)
    (first_isnt _ _ c.self.invariant c.args.name c.args.side c.first.result (rw c.queue_of.ensures at c.first.ensures))

use Rattle.io_queues.proofs.CallLemmas.{item_there}
use Rattle.io_queues.proofs.ReadLemmas.{node_low, queue_low}
use Rattle.io_queues.proofs.TakeLemmas.{back_movable, back_queued, back_seen}
use Rattle.io_queues.proofs.queues.Queues.move_back.Goals as goal

pub node_after-after-requires : goal.node_after-after-requires
node_after-after-requires g c =
    node_low _ _ _ _ _ c.self.invariant c.args.queue (rw (← c.self.view_is) at c.requires.queue)

pub put_before-requires : goal.put_before-requires
put_before-requires g c =
    rw (c.node_after-after.ensures)
    (back_movable _ _ _ _ _ c.self.invariant c.args.place
    (item_there _ _ _ _ _ c.self.invariant c.args.place (rw (← c.self.view_is) at c.requires.there)) c.args.queue
    (queue_low _ _ _ _ _ c.self.invariant c.args.queue (rw (← c.self.view_is) at c.requires.queue)))

pub invariant_of-self : goal.invariant_of-self
invariant_of-self g c =
    rw (c.put_before.ensures.next, c.put_before.ensures.before, c.node_after-after.ensures)
    (back_queued _ _ _ _ _ c.self.invariant c.args.place
    (item_there _ _ _ _ _ c.self.invariant c.args.place (rw (← c.self.view_is) at c.requires.there)) c.args.queue
    (queue_low _ _ _ _ _ c.self.invariant c.args.queue (rw (← c.self.view_is) at c.requires.queue)))

pub returns : goal.returns
returns g c =
    rw (c.put_before.ensures.next, c.node_after-after.ensures, ← c.self.view_is)
    (back_seen _ _ _ _ _ c.self.invariant c.args.place
    (item_there _ _ _ _ _ c.self.invariant c.args.place (rw (← c.self.view_is) at c.requires.there)) c.args.queue
    (queue_low _ _ _ _ _ c.self.invariant c.args.queue (rw (← c.self.view_is) at c.requires.queue)))

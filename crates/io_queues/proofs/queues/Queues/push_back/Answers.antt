use Rattle.std.proofs.Common.{◌∙◌}
use Rattle.io_queues.proofs.CallLemmas.{come_empty, come_free, come_inserted, come_low, come_movable, come_queued, come_within, end_is, end_pushed, low_place}
use Rattle.io_queues.proofs.ReadLemmas.{last_link, node_low}
use Rattle.io_queues.proofs.queues.Queues.push_back.Goals as goal

pub put_item-requires-clause-within : goal.put_item-requires-clause-within
put_item-requires-clause-within g c =
    let queue = rw (← c.self.view_is) at c.requires.queue in let room = rw (← c.self.view_is) at c.requires.room in
    come_within _ _ _ _ _ c.self.invariant c.index-place.result.now _ c.args.queue _ c.args.item
    (last_link _ _ _ _ _ c.self.invariant c.index-place.result.now c.index-place.ensures) room queue
    (end_is _ _ _ _ _ c.self.invariant c.args.queue queue)

pub put_item-requires-clause-empty : goal.put_item-requires-clause-empty
put_item-requires-clause-empty g c =
    let queue = rw (← c.self.view_is) at c.requires.queue in let room = rw (← c.self.view_is) at c.requires.room in
    come_empty _ _ _ _ _ c.self.invariant c.index-place.result.now _ c.args.queue _ c.args.item
    (last_link _ _ _ _ _ c.self.invariant c.index-place.result.now c.index-place.ensures) room queue
    (end_is _ _ _ _ _ c.self.invariant c.args.queue queue)

pub node_after-behind-requires : goal.node_after-behind-requires
node_after-behind-requires g c =
    node_low _ _ _ _ _ c.self.invariant c.args.queue (rw (← c.self.view_is) at c.requires.queue)

pub put_before-requires : goal.put_before-requires
put_before-requires g c =
    let queue = rw (← c.self.view_is) at c.requires.queue in let room = rw (← c.self.view_is) at c.requires.room in
    rw (c.node_after-behind.ensures)
    (come_movable _ _ _ _ _ c.self.invariant c.index-place.result.now _ c.args.queue _ c.args.item
    (last_link _ _ _ _ _ c.self.invariant c.index-place.result.now c.index-place.ensures) room queue
    (end_is _ _ _ _ _ c.self.invariant c.args.queue queue))

pub invariant_of-self : goal.invariant_of-self
invariant_of-self g c =
    let queue = rw (← c.self.view_is) at c.requires.queue in let room = rw (← c.self.view_is) at c.requires.room in
    rw (c.put_before.ensures.next, c.put_before.ensures.before, c.put_item.ensures, c.node_after-behind.ensures)
    (come_queued _ _ _ _ _ c.self.invariant c.index-place.result.now _ c.args.queue _ c.args.item
    (last_link _ _ _ _ _ c.self.invariant c.index-place.result.now c.index-place.ensures) room queue
    (end_is _ _ _ _ _ c.self.invariant c.args.queue queue))

pub returns-clause-within : goal.returns-clause-within
returns-clause-within g c =
    let queue = rw (← c.self.view_is) at c.requires.queue in let room = rw (← c.self.view_is) at c.requires.room in
    rw (← c.self.view_is)
    (low_place _ _ _ _ _ c.self.invariant c.index-place.result.now
    (come_low _ _ _ _ _ c.self.invariant c.index-place.result.now _ c.args.queue _ c.args.item
    (last_link _ _ _ _ _ c.self.invariant c.index-place.result.now c.index-place.ensures) room queue
    (end_is _ _ _ _ _ c.self.invariant c.args.queue queue)))

pub returns-clause-free : goal.returns-clause-free
returns-clause-free g c =
    let queue = rw (← c.self.view_is) at c.requires.queue in let room = rw (← c.self.view_is) at c.requires.room in
    rw (← c.self.view_is)
    (come_free _ _ _ _ _ c.self.invariant c.index-place.result.now _ c.args.queue _ c.args.item
    (last_link _ _ _ _ _ c.self.invariant c.index-place.result.now c.index-place.ensures) room queue
    (end_is _ _ _ _ _ c.self.invariant c.args.queue queue))

pub returns-clause-pushed : goal.returns-clause-pushed
returns-clause-pushed g c =
    let queue = rw (← c.self.view_is) at c.requires.queue in let room = rw (← c.self.view_is) at c.requires.room in
    rw (c.put_before.ensures.next, c.put_item.ensures, c.node_after-behind.ensures, ← c.self.view_is)
    (come_inserted _ _ _ _ _ c.self.invariant c.index-place.result.now _ c.args.queue _ c.args.item
    (last_link _ _ _ _ _ c.self.invariant c.index-place.result.now c.index-place.ensures) room queue
    (end_is _ _ _ _ _ c.self.invariant c.args.queue queue)
    ∙ end_pushed _ _ _ _ _ c.self.invariant c.args.queue queue c.index-place.result.now c.args.item)

use Rattle.std.proofs.Common.{arith}
use Rattle.io_queues.proofs.CallLemmas.{come_empty, come_free, come_inserted, come_low, come_movable, come_queued, come_within, low_place}
use Rattle.io_queues.proofs.ReadLemmas.{begin_link, begin_within, last_link, node_low, steps_low, to_index}
use Rattle.io_queues.proofs.queues.Queues.insert.Goals as goal

pub put_item-requires-clause-within : goal.put_item-requires-clause-within
put_item-requires-clause-within g c =
    let queue = rw (← c.self.view_is) at c.requires.queue in let room = rw (← c.self.view_is) at c.requires.room in
    let at = rw (← c.self.view_is) at c.requires.at in
    come_within _ _ _ _ _ c.self.invariant c.index-place.result.now _ c.args.queue _ c.args.item
    (last_link _ _ _ _ _ c.self.invariant c.index-place.result.now c.index-place.ensures) room queue
    (to_index _ _ _ _ _ c.self.invariant c.args.queue queue c.args.at at c.node_before-begin.result c.index-first.result.now
    c.node_behind-other.result c.node_before-begin.ensures c.index-first.ensures c.node_behind-other.ensures)

pub put_item-requires-clause-empty : goal.put_item-requires-clause-empty
put_item-requires-clause-empty g c =
    let queue = rw (← c.self.view_is) at c.requires.queue in let room = rw (← c.self.view_is) at c.requires.room in
    let at = rw (← c.self.view_is) at c.requires.at in
    come_empty _ _ _ _ _ c.self.invariant c.index-place.result.now _ c.args.queue _ c.args.item
    (last_link _ _ _ _ _ c.self.invariant c.index-place.result.now c.index-place.ensures) room queue
    (to_index _ _ _ _ _ c.self.invariant c.args.queue queue c.args.at at c.node_before-begin.result c.index-first.result.now
    c.node_behind-other.result c.node_before-begin.ensures c.index-first.ensures c.node_behind-other.ensures)

pub node_before-begin-requires : goal.node_before-begin-requires
node_before-begin-requires g c =
    node_low _ _ _ _ _ c.self.invariant c.args.queue (rw (← c.self.view_is) at c.requires.queue)

pub index-first-requires : goal.index-first-requires
index-first-requires g c =
    let within = begin_within _ _ _ _ _ c.self.invariant c.args.queue c.node_before-begin.result
    (rw (← c.self.view_is) at c.requires.queue) c.node_before-begin.ensures in
    omega (arith, within)

pub node_behind-other-requires : goal.node_behind-other-requires
node_behind-other-requires g c =
    let queue = rw (← c.self.view_is) at c.requires.queue in let at = rw (← c.self.view_is) at c.requires.at in
    λ k lt.
    rw (begin_link _ _ _ _ _ c.self.invariant c.args.queue c.node_before-begin.result c.index-first.result.now queue
    c.node_before-begin.ensures c.index-first.ensures)
    (steps_low _ _ _ _ _ c.self.invariant c.args.queue queue c.args.at k at lt)

pub put_before-requires : goal.put_before-requires
put_before-requires g c =
    let queue = rw (← c.self.view_is) at c.requires.queue in let room = rw (← c.self.view_is) at c.requires.room in
    let at = rw (← c.self.view_is) at c.requires.at in
    (come_movable _ _ _ _ _ c.self.invariant c.index-place.result.now _ c.args.queue _ c.args.item
    (last_link _ _ _ _ _ c.self.invariant c.index-place.result.now c.index-place.ensures) room queue
    (to_index _ _ _ _ _ c.self.invariant c.args.queue queue c.args.at at c.node_before-begin.result c.index-first.result.now
    c.node_behind-other.result c.node_before-begin.ensures c.index-first.ensures c.node_behind-other.ensures))

pub invariant_of-self : goal.invariant_of-self
invariant_of-self g c =
    let queue = rw (← c.self.view_is) at c.requires.queue in let room = rw (← c.self.view_is) at c.requires.room in
    let at = rw (← c.self.view_is) at c.requires.at in
    rw (c.put_before.ensures.next, c.put_before.ensures.before, c.put_item.ensures)
    (come_queued _ _ _ _ _ c.self.invariant c.index-place.result.now _ c.args.queue _ c.args.item
    (last_link _ _ _ _ _ c.self.invariant c.index-place.result.now c.index-place.ensures) room queue
    (to_index _ _ _ _ _ c.self.invariant c.args.queue queue c.args.at at c.node_before-begin.result c.index-first.result.now
    c.node_behind-other.result c.node_before-begin.ensures c.index-first.ensures c.node_behind-other.ensures))

pub returns-clause-within : goal.returns-clause-within
returns-clause-within g c =
    let queue = rw (← c.self.view_is) at c.requires.queue in let room = rw (← c.self.view_is) at c.requires.room in
    let at = rw (← c.self.view_is) at c.requires.at in
    rw (← c.self.view_is)
    (low_place _ _ _ _ _ c.self.invariant c.index-place.result.now
    (come_low _ _ _ _ _ c.self.invariant c.index-place.result.now _ c.args.queue _ c.args.item
    (last_link _ _ _ _ _ c.self.invariant c.index-place.result.now c.index-place.ensures) room queue
    (to_index _ _ _ _ _ c.self.invariant c.args.queue queue c.args.at at c.node_before-begin.result c.index-first.result.now
    c.node_behind-other.result c.node_before-begin.ensures c.index-first.ensures c.node_behind-other.ensures)))

pub returns-clause-free : goal.returns-clause-free
returns-clause-free g c =
    let queue = rw (← c.self.view_is) at c.requires.queue in let room = rw (← c.self.view_is) at c.requires.room in
    let at = rw (← c.self.view_is) at c.requires.at in
    rw (← c.self.view_is)
    (come_free _ _ _ _ _ c.self.invariant c.index-place.result.now _ c.args.queue _ c.args.item
    (last_link _ _ _ _ _ c.self.invariant c.index-place.result.now c.index-place.ensures) room queue
    (to_index _ _ _ _ _ c.self.invariant c.args.queue queue c.args.at at c.node_before-begin.result c.index-first.result.now
    c.node_behind-other.result c.node_before-begin.ensures c.index-first.ensures c.node_behind-other.ensures))

pub returns-clause-inserted : goal.returns-clause-inserted
returns-clause-inserted g c =
    let queue = rw (← c.self.view_is) at c.requires.queue in let room = rw (← c.self.view_is) at c.requires.room in
    let at = rw (← c.self.view_is) at c.requires.at in
    rw (c.put_before.ensures.next, c.put_item.ensures, ← c.self.view_is)
    (come_inserted _ _ _ _ _ c.self.invariant c.index-place.result.now _ c.args.queue _ c.args.item
    (last_link _ _ _ _ _ c.self.invariant c.index-place.result.now c.index-place.ensures) room queue
    (to_index _ _ _ _ _ c.self.invariant c.args.queue queue c.args.at at c.node_before-begin.result c.index-first.result.now
    c.node_behind-other.result c.node_before-begin.ensures c.index-first.ensures c.node_behind-other.ensures))

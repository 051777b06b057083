use Rattle.std.proofs.Common.{arith}
use Rattle.io_queues.proofs.ReadLemmas.{begin_link, begin_within, last_link, node_low, read_entry, read_first, read_none, read_there}
use Rattle.io_queues.proofs.TakeLemmas.{popped_seen, taken_movable, taken_queued}
use Rattle.io_queues.proofs.queues.Queues.pop_front.Goals as goal

pub node_before-begin-requires : goal.node_before-begin-requires
node_before-begin-requires g c =
    node_low _ _ _ _ _ c.self.invariant c.args.queue (rw (← c.self.view_is) at c.requires)

pub index-place-requires : goal.index-place-requires
index-place-requires g c =
    let within = begin_within _ _ _ _ _ c.self.invariant c.args.queue c.node_before-begin.result
    (rw (← c.self.view_is) at c.requires) c.node_before-begin.ensures in
    omega (arith, within)

pub returns-then-place-self-clause-empty : goal.returns-then-place-self-clause-empty
returns-then-place-self-clause-empty g c =
    let queue = rw (← c.self.view_is) at c.requires in
    let read = begin_link _ _ _ _ _ c.self.invariant c.args.queue c.node_before-begin.result c.index-place.result.now queue
    c.node_before-begin.ensures c.index-place.ensures in
    rw (← c.self.view_is)
    (read_none _ _ _ _ _ c.self.invariant c.args.queue queue c.index-place.result.now read (omega arith))

pub take_item-item-requires-clause-within : goal.take_item-item-requires-clause-within
take_item-item-requires-clause-within g c =
    let many = c.self.invariant.many in omega (arith, many)

pub take_item-item-requires-clause-there : goal.take_item-item-requires-clause-there
take_item-item-requires-clause-there g c =
    let queue = rw (← c.self.view_is) at c.requires in
    let read = begin_link _ _ _ _ _ c.self.invariant c.args.queue c.node_before-begin.result c.index-place.result.now queue
    c.node_before-begin.ensures c.index-place.ensures in
    read_there _ _ _ _ _ c.self.invariant c.args.queue queue c.index-place.result.now read (omega arith)

pub put_before-requires : goal.put_before-requires
put_before-requires g c =
    let queue = rw (← c.self.view_is) at c.requires in
    let read = begin_link _ _ _ _ _ c.self.invariant c.args.queue c.node_before-begin.result c.index-place.result.now queue
    c.node_before-begin.ensures c.index-place.ensures in
    rw (last_link _ _ _ _ _ c.self.invariant c.index-free.result.now c.index-free.ensures)
    (taken_movable _ _ _ _ _ c.self.invariant c.index-place.result.now
    (read_there _ _ _ _ _ c.self.invariant c.args.queue queue c.index-place.result.now read (omega arith)))

pub invariant_of-self : goal.invariant_of-self
invariant_of-self g c =
    let queue = rw (← c.self.view_is) at c.requires in
    let read = begin_link _ _ _ _ _ c.self.invariant c.args.queue c.node_before-begin.result c.index-place.result.now queue
    c.node_before-begin.ensures c.index-place.ensures in
    rw (
      c.put_before.ensures.next,
      c.put_before.ensures.before,
      c.take_item-item.ensures.taken,
      last_link _ _ _ _ _ c.self.invariant c.index-free.result.now c.index-free.ensures,
    )
    (taken_queued _ _ _ _ _ c.self.invariant c.index-place.result.now
    (read_there _ _ _ _ _ c.self.invariant c.args.queue queue c.index-place.result.now read (omega arith)))

pub returns-clause-first : goal.returns-clause-first
returns-clause-first g c =
    let queue = rw (← c.self.view_is) at c.requires in
    let read = begin_link _ _ _ _ _ c.self.invariant c.args.queue c.node_before-begin.result c.index-place.result.now queue
    c.node_before-begin.ensures c.index-place.ensures in
    rw (← c.self.view_is)
    (read_entry _ _ _ _ _ c.self.invariant c.args.queue queue c.index-place.result.now read c.take_item-item.result
    (omega arith) c.take_item-item.ensures.item)

pub returns-clause-popped : goal.returns-clause-popped
returns-clause-popped g c =
    let queue = rw (← c.self.view_is) at c.requires in
    let read = begin_link _ _ _ _ _ c.self.invariant c.args.queue c.node_before-begin.result c.index-place.result.now queue
    c.node_before-begin.ensures c.index-place.ensures in
    let first = read_first _ _ _ _ _ c.self.invariant c.args.queue queue c.index-place.result.now read (omega arith) in
    rw (
      c.put_before.ensures.next,
      c.take_item-item.ensures.taken,
      last_link _ _ _ _ _ c.self.invariant c.index-free.result.now c.index-free.ensures,
      ← c.self.view_is,
    )
    (popped_seen _ _ _ _ _ c.self.invariant c.index-place.result.now
    (read_there _ _ _ _ _ c.self.invariant c.args.queue queue c.index-place.result.now read (omega arith))
    c.args.queue first.rest first.is)

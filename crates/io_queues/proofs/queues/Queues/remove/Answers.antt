use Rattle.std.proofs.Common.{◌∙◌}
use Rattle.io_queues.proofs.CallLemmas.{item_low, item_there}
use Rattle.io_queues.proofs.QueuedLemmas.{item_is}
use Rattle.io_queues.proofs.ReadLemmas.{last_link}
use Rattle.io_queues.proofs.TakeLemmas.{taken_movable, taken_queued, taken_seen}
use Rattle.io_queues.proofs.queues.Queues.remove.Goals as goal

pub take_item-item-requires-clause-within : goal.take_item-item-requires-clause-within
take_item-item-requires-clause-within g c =
    item_low _ _ _ _ _ c.self.invariant c.args.place (rw (← c.self.view_is) at c.requires)

pub take_item-item-requires-clause-there : goal.take_item-item-requires-clause-there
take_item-item-requires-clause-there g c =
    item_there _ _ _ _ _ c.self.invariant c.args.place (rw (← c.self.view_is) at c.requires)

pub put_before-requires : goal.put_before-requires
put_before-requires g c =
    rw (last_link _ _ _ _ _ c.self.invariant c.index-first.result.now c.index-first.ensures)
    (taken_movable _ _ _ _ _ c.self.invariant c.args.place
    (item_there _ _ _ _ _ c.self.invariant c.args.place (rw (← c.self.view_is) at c.requires)))

pub invariant_of-self : goal.invariant_of-self
invariant_of-self g c =
    rw (
      c.put_before.ensures.next,
      c.put_before.ensures.before,
      c.take_item-item.ensures.taken,
      last_link _ _ _ _ _ c.self.invariant c.index-first.result.now c.index-first.ensures,
    )
    (taken_queued _ _ _ _ _ c.self.invariant c.args.place
    (item_there _ _ _ _ _ c.self.invariant c.args.place (rw (← c.self.view_is) at c.requires)))

pub returns-clause-item : goal.returns-clause-item
returns-clause-item g c =
    rw (← c.self.view_is) (item_is _ _ _ _ _ c.self.invariant c.args.place ∙ c.take_item-item.ensures.item)

pub returns-clause-removed : goal.returns-clause-removed
returns-clause-removed g c =
    rw (
      c.put_before.ensures.next,
      c.take_item-item.ensures.taken,
      last_link _ _ _ _ _ c.self.invariant c.index-first.result.now c.index-first.ensures,
      ← c.self.view_is,
    )
    (taken_seen _ _ _ _ _ c.self.invariant c.args.place
    (item_there _ _ _ _ _ c.self.invariant c.args.place (rw (← c.self.view_is) at c.requires)))

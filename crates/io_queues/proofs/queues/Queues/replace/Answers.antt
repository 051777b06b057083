use Rattle.std.proofs.Common.{◌∙◌}
use Rattle.io_queues.proofs.CallLemmas.{item_low, item_there}
use Rattle.io_queues.proofs.QueuedLemmas.{item_is}
use Rattle.io_queues.proofs.ReadLemmas.{replaced_queued, replaced_seen}
use Rattle.io_queues.proofs.queues.Queues.replace.Goals as goal

pub swap_item-requires-clause-within : goal.swap_item-requires-clause-within
swap_item-requires-clause-within g c =
    item_low _ _ _ _ _ c.self.invariant c.args.place (rw (← c.self.view_is) at c.requires)

pub swap_item-requires-clause-there : goal.swap_item-requires-clause-there
swap_item-requires-clause-there g c =
    item_there _ _ _ _ _ c.self.invariant c.args.place (rw (← c.self.view_is) at c.requires)

pub invariant_of-self : goal.invariant_of-self
invariant_of-self g c =
    rw (c.swap_item.ensures.swapped)
    (replaced_queued _ _ _ _ _ c.self.invariant c.args.place c.args.item
    (item_there _ _ _ _ _ c.self.invariant c.args.place (rw (← c.self.view_is) at c.requires)))

pub returns-clause-item : goal.returns-clause-item
returns-clause-item g c =
    rw (← c.self.view_is) (item_is _ _ _ _ _ c.self.invariant c.args.place ∙ c.swap_item.ensures.item)

pub returns-clause-replaced : goal.returns-clause-replaced
returns-clause-replaced g c =
    rw (c.swap_item.ensures.swapped, ← c.self.view_is)
    (replaced_seen _ _ _ _ _ c.self.invariant c.args.place c.args.item
    (item_there _ _ _ _ _ c.self.invariant c.args.place (rw (← c.self.view_is) at c.requires)))

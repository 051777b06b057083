use Rattle.std.proofs.Common.{None, ap, arith, refl, sym, ◌∙◌}
use Rattle.std.proofs.lemmas.Bool.{true≢false}
use Rattle.std.proofs.lemmas.List.{get_or_read}
use Rattle.std.specs.Option.{is_some}
use Rattle.io_queues.proofs.CallLemmas.{item_low, item_there}
use Rattle.io_queues.proofs.QueuedLemmas.{item_is}
use Rattle.io_queues.proofs.ReadLemmas.{replaced_queued, replaced_seen}
use Rattle.io_queues.proofs.queues.Queues.get_mut.Goals as goal

pub index_mut-slot-requires : goal.index_mut-slot-requires
index_mut-slot-requires g c =
    let within = item_low _ _ _ _ _ c.self.invariant c.args.place (rw (← c.self.view_is) at c.requires) in
    omega (arith, within)

pub unreachable-requires : goal.unreachable-requires
unreachable-requires g c =
    let there = item_there _ _ _ _ _ c.self.invariant c.args.place (rw (← c.self.view_is) at c.requires) in
    let within = item_low _ _ _ _ _ c.self.invariant c.args.place (rw (← c.self.view_is) at c.requires) in
    let read = get_or_read c.self.inside.items.items c.args.place c.index_mut-slot.result.now within
    c.index_mut-slot.ensures.value None in
    true≢false (sym there ∙ ap is_some (sym read ∙ c.in-None.is))

pub invariant_of-self-lent : goal.invariant_of-self-lent
invariant_of-self-lent g c =
    rw c.in-Some.is (λ w.
    replaced_queued _ _ _ _ _ c.self.invariant c.args.place w
    (item_there _ _ _ _ _ c.self.invariant c.args.place (rw (← c.self.view_is) at c.requires)))

pub returns : goal.returns
returns g c =
    let within = item_low _ _ _ _ _ c.self.invariant c.args.place (rw (← c.self.view_is) at c.requires) in
    let read = get_or_read c.self.inside.items.items c.args.place c.index_mut-slot.result.now within
    c.index_mut-slot.ensures.value None in
    let value = item_is _ _ _ _ _ c.self.invariant c.args.place ∙ sym read ∙ c.in-Some.is in
    let there = item_there _ _ _ _ _ c.self.invariant c.args.place (rw (← c.self.view_is) at c.requires) in
    rw (c.in-Some.is, ← c.self.view_is)
    ((refl, λ w. replaced_seen _ _ _ _ _ c.self.invariant c.args.place w there), record { writes_back = tt; value = value })

use Rattle.std.proofs.Common.{None, ap, arith, sym, ◌∙◌}
use Rattle.std.proofs.lemmas.Bool.{true≢false}
use Rattle.std.proofs.lemmas.List.{get_or_read}
use Rattle.std.specs.Option.{is_some}
use Rattle.io_queues.proofs.CallLemmas.{item_low, item_there}
use Rattle.io_queues.proofs.QueuedLemmas.{item_is}
use Rattle.io_queues.proofs.queues.Queues.get.Goals as goal

pub index-requires : goal.index-requires
index-requires g c =
    let within = item_low _ _ _ _ _ c.self.invariant c.args.place (rw (← c.self.view_is) at c.requires) in
    omega (arith, within)

pub unreachable-requires : goal.unreachable-requires
unreachable-requires g c =
    let there = item_there _ _ _ _ _ c.self.invariant c.args.place (rw (← c.self.view_is) at c.requires) in
    let within = item_low _ _ _ _ _ c.self.invariant c.args.place (rw (← c.self.view_is) at c.requires) in
    let read = get_or_read c.self.inside.items.items c.args.place c.index.result.now within c.index.ensures None in
    true≢false (sym there ∙ ap is_some (sym read ∙ c.in-None.is))

pub returns : goal.returns
returns g c =
    let within = item_low _ _ _ _ _ c.self.invariant c.args.place (rw (← c.self.view_is) at c.requires) in
    let read = get_or_read c.self.inside.items.items c.args.place c.index.result.now within c.index.ensures None in
    rw (← c.self.view_is) (item_is _ _ _ _ _ c.self.invariant c.args.place ∙ sym read ∙ c.in-Some.is)

use Rattle.std.proofs.Common.{◌+◌, arith, refl, subst, sym, take}
use Rattle.asio_types.specs.declared.event.Event.TheVariants as event
use Rattle.history_rules.specs.Legal.{state_of}
use Rattle.session_orders.proofs.SameLemmas.{AreAlike, alike_first, alike_more, alike_whole}
use Rattle.session_orders.proofs.same.are_alike.Goals as goal

pub loop-i-init : goal.loop-i-init
loop-i-init c told = alike_first c.args.script.now told

pub loop-i-preserved : goal.loop-i-preserved
loop-i-preserved c told =
    subst
    (λ f. AreAlike f (state_of c.args.script.now told (take (c.loop-i.i + 1) c.args.first.now))
    (state_of c.args.script.now told (take (c.loop-i.i + 1) c.args.second.now)))
    (sym c.free_after-free.ensures)
    (alike_more c.args.script.now told c.loop-i.free c.args.first.now c.args.second.now c.loop-i.i (event.Call 0)
    (event.Call 0) (omega arith) (omega arith) (c.loop-i.invariant told) (c.if-not-may_pair.ensures refl))

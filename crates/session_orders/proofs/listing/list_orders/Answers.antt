use Rattle.std.proofs.Common.{subst, sym, ◌∙◌}
use Rattle.session_orders.specs.Bound.{IsCutOff}
use Rattle.session_orders.specs.Order.{HasAllOrders}
use Rattle.session_orders.proofs.listing.list_orders.Goals as goal

pub returns-clause-whole : goal.returns-clause-whole
returns-clause-whole c all =
    subst (HasAllOrders c.args.script.now c.args.bounds.reactor) (sym c.of.ensures.orders)
    (c.in_ok-all.ensures.whole (sym c.of.ensures.all ∙ all))

pub returns-clause-cut : goal.returns-clause-cut
returns-clause-cut c cut =
    subst (IsCutOff c.args.script.now c.args.bounds) (sym c.of.ensures.orders)
    (c.in_ok-all.ensures.cut (sym c.of.ensures.all ∙ cut))

use Rattle.std.proofs.Common.{sym, ◌∙◌}
use Rattle.session_orders.proofs.BoundLemmas.{count_histories}
use Rattle.session_orders.proofs.counting.count_listed.Goals as goal

pub returns-then-are_all-clause-counted : goal.returns-then-are_all-clause-counted
returns-then-are_all-clause-counted c =
    count_histories c.args.script.now c.args.kind c.histories.result.now c.in_ok-orders.orders.orders
    c.histories.ensures c.in_ok-orders.ensures.right
    (c.in_ok-orders.ensures.whole (sym c.are_all.ensures ∙ c.if-are_all.true))

use Rattle.std.proofs.Common.{length, subst, sym, ◌∙◌}
use Rattle.session_orders.specs.Listed.{events_in}
use Rattle.order_questions.specs.Handlers.{AreHandlersOf}
use Rattle.order_questions.proofs.HandlerLemmas.{all_handler_orders, handler_orders}
use Rattle.order_questions.proofs.handlers.list_handlers.Goals as goal

pub returns-clause-right : goal.returns-clause-right
returns-clause-right c =
    handler_orders c.args.script.now c.args.bounds.reactor c.in_ok-orders.orders.orders
    (events_in c.in_ok-lists.lists.items) c.in_ok-orders.ensures.right
    (subst (λ orders. AreHandlersOf orders (length orders) (events_in c.in_ok-lists.lists.items)) c.histories.ensures
    c.in_ok-lists.ensures)

pub returns-clause-whole : goal.returns-clause-whole
returns-clause-whole c all =
    all_handler_orders c.args.script.now c.args.bounds.reactor c.in_ok-orders.orders.orders
    (events_in c.in_ok-lists.lists.items) (c.in_ok-orders.ensures.whole (sym c.are_all.ensures ∙ all))
    (subst (λ orders. AreHandlersOf orders (length orders) (events_in c.in_ok-lists.lists.items)) c.histories.ensures
    c.in_ok-lists.ensures)

pub returns-clause-cut : goal.returns-clause-cut
returns-clause-cut c all =
    record {
      orders = c.in_ok-orders.orders.orders;
      right = c.in_ok-orders.ensures.right;
      cut = c.in_ok-orders.ensures.cut (sym c.are_all.ensures ∙ all);
      are =
          subst (λ orders. AreHandlersOf orders (length orders) (events_in c.in_ok-lists.lists.items))
          c.histories.ensures c.in_ok-lists.ensures;
    }

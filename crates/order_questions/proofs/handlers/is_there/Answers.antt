use Rattle.std.proofs.Common.{arith, ◌∙◌}
use Rattle.session_orders.proofs.ComeLemmas.{not_true}
use Rattle.order_questions.proofs.HandlerLemmas.{none_more, none_there}
use Rattle.order_questions.proofs.handlers.is_there.Goals as goal

pub loop-list-preserved : goal.loop-list-preserved
loop-list-preserved c =
    none_more c.args.lists.now c.args.shown.now c.loop-list.list-index c.list-item.result c.loop-list-test.true
    c.list-item.is c.loop-list.invariant (λ is. not_true (c.if-are_same.ensures.1 (c.events.ensures ∙ is)))

pub returns : goal.returns
returns c =
    let over = c.loop-list-test.false in (
      (λ is. absurd (not_true is)),
      (λ found.
          absurd
          (none_there c.args.lists.now c.args.shown.now
          (λ k below. c.loop-list.invariant k (omega (arith, below, over))) found)),
    )

use Rattle.std.proofs.Common.{refl, ◌∙◌}
use Rattle.session_orders.specs.Listed.{events_in}
use Rattle.session_orders.proofs.ComeLemmas.{not_true}
use Rattle.order_questions.proofs.HandlerLemmas.{handlers_joined, handlers_known}
use Rattle.order_questions.proofs.handlers.add.Goals as goal

pub returns-then-is_there : goal.returns-then-is_there
returns-then-is_there c =
    handlers_known (events_in c.args.histories.now) c.args.lists.now.items c.as_slice.result.now c.args.i
    c.events.result.now c.as_slice.ensures.value (c.events.ensures ∙ c.in_ok-shown.ensures) c.requires.are
    (c.if-is_there.ensures.0 refl)

pub returns : goal.returns
returns c =
    handlers_joined (events_in c.args.histories.now) c.args.lists.now.items c.as_slice.result.now c.push.new.self.items
    c.args.i c.in_ok-shown.shown c.events.result.now c.as_slice.ensures.value c.in_ok-push.ensures.items c.events.ensures
    c.in_ok-shown.ensures c.requires.are (λ known. not_true (c.if-is_there.ensures.1 known))

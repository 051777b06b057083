use Rattle.std.proofs.Common.{sym, subst, ◌∙◌, ◌≡◌}
use Rattle.std.specs.Prelude.{IfOk}
use Rattle.order_questions.specs.Handlers.{handlers_in}
use Rattle.order_questions.proofs.AnswerLemmas.{order_in}
use Rattle.order_questions.proofs.handlers.handlers_at.Goals as goal

pub returns : goal.returns
returns c =
    subst (λ events. IfOk c.handlers_in.result (λ shown. shown.events ≡ handlers_in events))
    (c.events.ensures
    ∙ sym (order_in c.args.histories.now c.args.i c.index-histories-i.result c.requires c.index-histories-i.is))
    c.handlers_in.ensures

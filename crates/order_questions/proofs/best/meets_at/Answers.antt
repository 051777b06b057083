use Rattle.std.proofs.Common.{sym, subst, ◌∙◌}
use Rattle.std.specs.Prelude.{◌↔◌, IsTrue}
use Rattle.order_questions.proofs.AnswerLemmas.{order_in}
use Rattle.order_questions.specs.Condition.{Meets}
use Rattle.order_questions.proofs.best.meets_at.Goals as goal

pub returns : goal.returns
returns c =
    subst (λ events. IsTrue c.is_met.result ↔ Meets c.args.condition events)
    (c.events.ensures
    ∙ sym (order_in c.args.histories.now c.args.i c.index-histories-i.result c.requires c.index-histories-i.is))
    c.is_met.ensures

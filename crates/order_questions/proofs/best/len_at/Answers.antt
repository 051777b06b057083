use Rattle.std.proofs.Common.{ap, length, sym, ◌∙◌}
use Rattle.order_questions.proofs.AnswerLemmas.{order_in}
use Rattle.order_questions.proofs.best.len_at.Goals as goal

pub returns : goal.returns
returns c =
    ap length
    (c.events.ensures
    ∙ sym (order_in c.args.histories.now c.args.i c.index-histories-i.result c.requires c.index-histories-i.is))

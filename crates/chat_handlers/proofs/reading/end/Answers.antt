use Rattle.std.proofs.Common.{◌∙◌, subst, sym}
use Rattle.chat_handlers.specs.Serving.{EndsIf}
use Rattle.chat_handlers.proofs.reading.end.Goals as goal

pub returns-then-is_long-clause-ends : goal.returns-then-is_long-clause-ends
returns-then-is_long-clause-ends c =
    subst (λ long. EndsIf long c.args.speaker.now.link c.args.io.now c.refuse.new.io)
    (sym c.if-is_long.true ∙ c.is_long.ensures) c.refuse.ensures.refuses

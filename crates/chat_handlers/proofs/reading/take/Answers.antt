use Rattle.std.proofs.Common.{subst}
use Rattle.chat_handlers.specs.Chats.{IsHeard}
use Rattle.chat_handlers.specs.Chats.Takes.{takes}
use Rattle.chat_handlers.proofs.reading.take.Goals as goal

pub returns-in-Ok-clause-takes : goal.returns-in-Ok-clause-takes
returns-in-Ok-clause-takes c =
    takes c.hear.new.speaker c.in-Ok.text
    (subst (λ came. IsHeard c.args.speaker c.hear.new.speaker came c.in-Ok.text.items) c.came_in.ensures c.in-Ok.ensures.heard)
    c.pass.ensures.passes

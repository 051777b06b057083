use Rattle.std.proofs.Common.{◌++◌, ◌∙◌, ap₂}
use Rattle.chat_handlers.specs.Chats.Meets.{greets}
use Rattle.chat_handlers.proofs.reading.meet.Goals as goal

pub returns-in-Ok-clause-meets : goal.returns-in-Ok-clause-meets
returns-in-Ok-clause-meets c =
    greets c.in-Ok.bytes
    (c.in-Ok.ensures ∙ ap₂ (λ kept came. kept ++ came) c.as_slice.ensures.value c.came_in.ensures) c.greet.ensures.greets

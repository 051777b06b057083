use Rattle.std.proofs.Common.{subst₂, sym}
use Rattle.chat_handlers.specs.Chats.{Hears}
use Rattle.chat_handlers.proofs.reading.came.Goals as goal

pub returns-in-Ok-Some-clause-hears : goal.returns-in-Ok-Some-clause-hears
returns-in-Ok-Some-clause-hears c =
    subst₂ (λ given buffer. Hears c.args.speaker given c.args.size buffer c.args.io.now c.take.new.io)
    (sym c.in-Ok-Some.is-0) (sym c.in-Ok-Some.is-1) c.take.ensures.takes

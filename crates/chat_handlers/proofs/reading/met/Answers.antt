use Rattle.std.proofs.Common.{subst₂, sym}
use Rattle.chat_handlers.specs.Chats.{MeetsIf}
use Rattle.chat_handlers.proofs.reading.met.Goals as goal

pub returns-in-Ok-Some-clause-meets : goal.returns-in-Ok-Some-clause-meets
returns-in-Ok-Some-clause-meets c =
    subst₂ (λ given buffer. MeetsIf c.args.caller given c.args.size buffer c.args.io.now c.meet.new.io)
    (sym c.in-Ok-Some.is-0) (sym c.in-Ok-Some.is-1) c.meet.ensures.meets

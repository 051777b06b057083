use Rattle.std.proofs.Common.{subst, sym}
use Rattle.chat_handlers.specs.Chats.{BeginsIf}
use Rattle.chat_handlers.proofs.accepting.begin_if.Goals as goal

pub returns-in-Some-clause-begins : goal.returns-in-Some-clause-begins
returns-in-Some-clause-begins c =
    subst (λ made. BeginsIf c.args.service.door made c.args.now c.args.io.now c.begin.new.io) (sym c.in-Some.is)
    c.begin.ensures.begins

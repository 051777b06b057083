use Rattle.std.proofs.Common.{subst, sym}
use Rattle.chat_handlers.specs.Serving.{MayServe}
use Rattle.chat_handlers.proofs.chat.ChatHandler.call.Goals as goal

pub returns-in-Joins-clause-may : goal.returns-in-Joins-clause-may
returns-in-Joins-clause-may c =
    subst (λ handler. MayServe handler c.args.done c.args.state.now c.join.new.room c.args.io.now c.join.new.io)
    (sym c.in-Joins.is) c.join.ensures.joins

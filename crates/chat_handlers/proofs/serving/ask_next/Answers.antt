use Rattle.std.proofs.Common.{subst, sym}
use Rattle.chat_handlers.specs.Serving.{AsksNext}
use Rattle.chat_handlers.proofs.serving.ask_next.Goals as goal

pub returns-in-None-clause-asks : goal.returns-in-None-clause-asks
returns-in-None-clause-asks c =
    subst (λ next. AsksNext next c.args.word c.args.speaker c.args.buffer c.args.text c.args.io.now c.turn_away.new.io)
    (sym c.in-None.is) c.turn_away.ensures.refuses

pub returns-in-Some-clause-asks : goal.returns-in-Some-clause-asks
returns-in-Some-clause-asks c =
    subst (λ next. AsksNext next c.args.word c.args.speaker c.args.buffer c.args.text c.args.io.now c.post.new.io)
    (sym c.in-Some.is) c.post.ensures.posts

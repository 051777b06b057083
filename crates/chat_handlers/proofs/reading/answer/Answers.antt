use Rattle.std.proofs.Common.{◌∙◌, subst, sym}
use Rattle.chat_handlers.specs.Chats.{IsAsking}
use Rattle.chat_handlers.specs.Chats.Answers.{asks, refuses}
use Rattle.chat_handlers.proofs.reading.answer.Goals as goal

pub returns-in-None-clause-answers : goal.returns-in-None-clause-answers
returns-in-None-clause-answers c = refuses (sym c.in-None.ensures.asked) c.turn_away.ensures.refuses

pub returns-in-Ok-clause-answers : goal.returns-in-Ok-clause-answers
returns-in-Ok-clause-answers c =
    let asked = c.in-Ok.asked in
    asks asked.word asked.text asked.speaker (sym c.in-Some.ensures.asked) (c.in-Ok.ensures.word ∙ c.in-Some.ensures.room)
    (subst (λ name. IsAsking c.args.caller.now name c.args.behind.now asked.text.items asked.speaker) c.in-Some.ensures.name
    c.in-Ok.ensures.asks)
    c.ask.ensures.asks

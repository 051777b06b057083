use Rattle.std.proofs.Common.{subst}
use Rattle.chat_handlers.specs.Lines.{BeginsWith}
use Rattle.chat_handlers.specs.Chats.{Answers}
use Rattle.chat_handlers.specs.Chats.Greets.{answers}
use Rattle.chat_handlers.proofs.reading.greet.Goals as goal

pub returns-in-Some-clause-greets : goal.returns-in-Some-clause-greets
returns-in-Some-clause-greets c =
    let line = c.in-Some.line.now in
    let behind = c.in-Some.behind.now in
    answers line behind (subst (λ bytes. BeginsWith bytes line behind) c.as_slice.ensures.value c.in-Some.ensures.begins)
    (subst (λ line. Answers c.args.caller line behind c.args.buffer c.args.io.now c.answer.new.io) c.without_return.ensures
    c.answer.ensures.answers)

use Rattle.std.proofs.Common.{◌≡◌, ◌++◌, OnOk, rules, subst}
use Rattle.http_handlers.proofs.AnswersLemmas.{greeting_is}
use Rattle.http_handlers.proofs.answer.Answer.write.Goals as goal

pub returns-in-Ok : goal.returns-in-Ok
returns-in-Ok c =
    subst (λ text. OnOk c.write_parts.result (c.write_parts.new.out.items ≡ c.args.out.now.items ++ text))
    (greeting_is c.args.self.now c.as_bytes.result.now (search rules) (search rules)) c.write_parts.ensures

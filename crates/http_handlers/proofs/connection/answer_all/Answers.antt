use Rattle.std.proofs.Common.{rules, subst}
use Rattle.http_handlers.specs.Connections.{Gives}
use Rattle.http_handlers.specs.Requests.{IsAnswer}
use Rattle.http_handlers.proofs.ConnectionsLemmas.{gives_first, gives_last}
use Rattle.http_handlers.proofs.connection.answer_all.Goals as goal

pub returns-then-not-answer : goal.returns-then-not-answer
returns-then-not-answer c =
    c.heads.invariant _ _
    (gives_last c.heads.served _ c.heads.rest.now c.heads.out.items _ c.in-Some.size c.answer_of-answer.result
    c.in-Some.ensures.some (subst (λ head. IsAnswer c.heads.served head c.answer_of-answer.result)
    c.split_at.ensures.front c.answer_of-answer.ensures) (search rules) c.in_ok-write.ensures
    c.saturating_add-served.ensures)

pub heads-preserved : goal.heads-preserved
heads-preserved c final left later =
    c.heads.invariant final left
    (gives_first c.heads.served _ c.heads.rest.now c.heads.out.items c.write.new.out.items final left c.in-Some.size
    c.answer_of-answer.result c.in-Some.ensures.some (subst (λ head. IsAnswer c.heads.served head
    c.answer_of-answer.result) c.split_at.ensures.front c.answer_of-answer.ensures) (search rules) c.in_ok-write.ensures
    c.saturating_add-served.ensures
    (subst (λ bytes. Gives c.saturating_add-served.result bytes c.write.new.out.items final left)
    c.split_at.ensures.back later))

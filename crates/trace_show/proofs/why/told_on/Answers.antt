use Rattle.std.proofs.Common.{subst}
use Rattle.trace_show.specs.Why.{IsWhy}
use Rattle.trace_show.proofs.why.told_on.Goals as goal

pub returns-clause-reason : goal.returns-clause-reason
returns-clause-reason c =
    let events = c.args.events.now in
    let said = c.finding_on-said.result in
    subst (λ script. IsWhy script c.args.tells events said.verdict said.reason) c.in-Ok.ensures.script
    (subst (λ told. IsWhy c.in-Ok.replay.script told events said.verdict said.reason) c.in-Ok.ensures.told
    c.finding_on-said.ensures.reason)

use Rattle.std.proofs.Common.{sym, ◌∙◌}
use Rattle.run_verdict.proofs.AgainstLemmas.{takes_none, takes_some}
use Rattle.run_verdict.proofs.against.takes_elsewhere.Goals as goal

pub returns-in-Some : goal.returns-in-Some
returns-in-Some c = λ level past judged.
    takes_some past c.args.line.now.thread c.args.line.now.does c.args.found.now c.in-Some.resource c.has_elsewhere.result
    (sym c.taken_by.ensures ∙ c.in-Some.is) (c.has_elsewhere.ensures level past judged)

pub returns-in-None : goal.returns-in-None
returns-in-None c = λ level past judged.
    takes_none past c.args.line.now.thread c.args.line.now.does c.args.found.now (sym c.taken_by.ensures ∙ c.in-None.is)

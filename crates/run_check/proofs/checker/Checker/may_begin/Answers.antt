use Rattle.std.proofs.Common.{sym, ◌∙◌}
use Rattle.std.proofs.lemmas.Bool.{both_ways}
use Rattle.run_check.proofs.JudgeLemmas.{misfit_judges}
use Rattle.run_check.proofs.checker.Checker.may_begin.Goals as goal

pub returns-else-may_have_outcome : goal.returns-else-may_have_outcome
returns-else-may_have_outcome c = λ past after.
    misfit_judges past c.args.thread c.args.op c.args.code c.args.size c.in-Some.waiter (sym (c.in-Some.ensures
    ∙ after.waiting c.args.op))
    (λ fits. both_ways c.may_have_outcome.result c.if-may_have_outcome.false (c.may_have_outcome.ensures.1 fits))

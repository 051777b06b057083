use Rattle.std.proofs.Common.{◌∙◌}
use Rattle.run_check.proofs.JudgeLemmas.{mark_judges}
use Rattle.run_check.proofs.checker.Checker.may_follow.Goals as goal

pub returns : goal.returns
returns c = λ past after. mark_judges past c.args.mark c.has.result (c.has.ensures
    ∙ after.marked c.args.mark) c.asked.result c.asked.ensures

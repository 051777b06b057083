use Rattle.run_check.proofs.JudgeLemmas.{fact_judges}
use Rattle.run_check.proofs.checker.Checker.may_give.Goals as goal

pub returns : goal.returns
returns c = λ past after. fact_judges c.is_taken.result c.args.broken (c.is_taken.ensures past after) c.asked.result
    c.asked.ensures

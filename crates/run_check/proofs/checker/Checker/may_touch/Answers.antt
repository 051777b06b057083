use Rattle.run_check.proofs.JudgeLemmas.{fact_judges}
use Rattle.run_check.proofs.checker.Checker.may_touch.Goals as goal

pub returns : goal.returns
returns c = λ past after. fact_judges c.is_untouched.result c.args.broken (c.is_untouched.ensures past after) c.asked.result
    c.asked.ensures

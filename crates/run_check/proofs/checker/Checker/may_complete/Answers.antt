use Rattle.std.proofs.Common.{ap, ◌∙◌}
use Rattle.run_check.specs.Judging.{completion_judged}
use Rattle.run_check.proofs.JudgeLemmas.{completion_judges}
use Rattle.run_check.proofs.checker.Checker.may_complete.Goals as goal

pub returns : goal.returns
returns c = λ past what size after.
    completion_judges past c.args.self.now c.args.op what size after c.judge_completion.result (c.judge_completion.ensures
    ∙ ap completion_judged c.get.ensures)

use Rattle.std.proofs.Common.{ap, ◌∙◌}
use Rattle.std.specs.Prelude.{Bool}
use Rattle.run_rules.specs.declared.rule.Rule.TheVariants as rule
use Rattle.run_check.specs.Judging.{asked}
use Rattle.run_check.proofs.JudgeLemmas.{drop_judges}
use Rattle.run_check.proofs.checker.Checker.may_drop.Goals as goal

pub returns : goal.returns
returns c = λ past after. drop_judges past c.args.self.now c.args.op after c.asked.result (c.asked.ensures
    ∙ ap (λ (b : Bool). asked b rule.Waiting) c.has.ensures)

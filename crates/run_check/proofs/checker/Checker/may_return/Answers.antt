use Rattle.std.proofs.Common.{ap, ◌∙◌}
use Rattle.std.specs.Prelude.{Bool}
use Rattle.run_rules.specs.declared.rule.Rule.TheVariants as rule
use Rattle.run_check.specs.Judging.{asked}
use Rattle.run_check.proofs.RuleLemmas.{kept_last}
use Rattle.run_check.proofs.JudgeLemmas.{return_judges}
use Rattle.run_check.proofs.checker.Checker.may_return.Goals as goal

pub returns : goal.returns
returns c = λ past after.
    return_judges past c.args.thread c.args.op c.of.result (c.of.ensures
    ∙ kept_last past c.args.self.now after c.args.thread c.frame-frame.result c.frame-frame.ensures) c.asked.result
    (c.asked.ensures ∙ ap (λ (b : Bool). asked b rule.Returns) c.is_number.ensures)

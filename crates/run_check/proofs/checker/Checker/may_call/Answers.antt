use Rattle.std.proofs.Common.{ap, ◌∙◌}
use Rattle.std.specs.Prelude.{Bool}
use Rattle.run_rules.specs.declared.rule.Rule.TheVariants as rule
use Rattle.run_check.specs.Judging.{asked}
use Rattle.run_check.proofs.JudgeLemmas.{call_judges}
use Rattle.run_check.proofs.checker.Checker.may_call.Goals as goal

pub returns : goal.returns
returns c = λ past how context strand thing after.
    call_judges past c.args.self.now c.args.op how context strand thing after c.asked.result (c.asked.ensures
    ∙ ap (λ (b : Bool). asked b rule.New) c.is_above.ensures)

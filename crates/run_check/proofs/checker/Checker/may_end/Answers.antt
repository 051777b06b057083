use Rattle.std.proofs.Common.{ap, ◌∙◌}
use Rattle.std.specs.Prelude.{Option, ℕ}
use Rattle.run_rules.specs.Takings.{taken}
use Rattle.run_check.specs.Judging.{end_judged}
use Rattle.run_check.proofs.JudgeLemmas.{end_judges, throw_judges}
use Rattle.run_check.proofs.checker.Checker.may_end.Goals as goal

pub returns-clause-ended : goal.returns-clause-ended
returns-clause-ended c = λ past after.
    end_judges past c.args.self.now after c.args.thread c.args.op c.has_any-taken.result
    (c.has_any-taken.ensures (taken past) after.counted) c.judge_end.result
    (c.judge_end.ensures ∙ ap (λ (o : Option ℕ). end_judged o c.args.op c.has_any-taken.result) c.innermost.ensures)

pub returns-clause-thrown : goal.returns-clause-thrown
returns-clause-thrown c = λ past after.
    throw_judges past c.args.thread c.args.op c.judge_end.result
    (end_judges past c.args.self.now after c.args.thread c.args.op c.has_any-taken.result
    (c.has_any-taken.ensures (taken past) after.counted) c.judge_end.result
    (c.judge_end.ensures ∙ ap (λ (o : Option ℕ). end_judged o c.args.op c.has_any-taken.result) c.innermost.ensures))

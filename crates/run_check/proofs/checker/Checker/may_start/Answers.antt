use Rattle.std.proofs.Common.{ap, ◌∙◌}
use Rattle.std.specs.Prelude.{Option, ℕ}
use Rattle.run_check.specs.Judging.{start_judged}
use Rattle.run_check.proofs.JudgeLemmas.{free_judges, start_judges}
use Rattle.run_check.proofs.checker.Checker.may_start.Goals as goal

pub returns-in-None : goal.returns-in-None
returns-in-None c = λ past op what size after found fits. free_judges past c.args.self.now after c.args.thread op what size
    c.args.waiter.now found fits c.in-None.is

pub returns-in-Some : goal.returns-in-Some
returns-in-Some c = λ past op what size after found fits.
    start_judges past c.args.self.now after c.args.thread op what size c.in-Some.strand c.args.waiter.now found fits c.in-Some.is
    c.is_inside-inside.result c.is_inside-inside.ensures
    c.judge_start.result (c.judge_start.ensures ∙ ap (λ (h : Option ℕ). start_judged h c.args.thread c.is_inside-inside.result)
    c.holder.ensures)

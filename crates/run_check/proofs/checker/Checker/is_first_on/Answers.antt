use Rattle.std.proofs.Common.{ap, ◌∙◌}
use Rattle.std.specs.Prelude.{Option, ℕ}
use Rattle.run_check.specs.Judging.{is_first_by}
use Rattle.run_check.proofs.JudgeLemmas.{first_judged}
use Rattle.run_check.proofs.checker.Checker.is_first_on.Goals as goal

pub returns : goal.returns
returns c = λ past after op found on.
    first_judged past c.args.self.now after op c.args.strand c.args.waiter.now found on c.comes_later-later.result
    c.is_first_by.result (c.comes_later-later.ensures past after)
    (c.is_first_by.ensures ∙ ap (λ (h : Option ℕ). is_first_by h c.comes_later-later.result) c.holder.ensures)

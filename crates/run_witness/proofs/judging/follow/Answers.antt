use Rattle.std.proofs.Common.{refl, sym, ◌∙◌}
use Rattle.run_witness.proofs.JudgingLemmas.{false_true, may_loose, refuted}
use Rattle.run_witness.proofs.judging.follow.Goals as goal

pub returns-in_ok-follow-clause-exact : goal.returns-in_ok-follow-clause-exact
returns-in_ok-follow-clause-exact c = λ past after. (
  λ good.
      (c.may_come.ensures past after).0 c.if-may_come.true,
  λ came. refl,
)

pub returns-in_ok-follow-clause-followed : goal.returns-in_ok-follow-clause-followed
returns-in_ok-follow-clause-followed c = λ past after good.
    let line = c.args.line.now in
    let came = (c.may_come.ensures past after).0 c.if-may_come.true in
    c.in_ok-follow.ensures past after (may_loose past line.thread line.does came.rules)

pub returns-else-may_come-clause-exact : goal.returns-else-may_come-clause-exact
returns-else-may_come-clause-exact c = λ past after.
    refuted (λ came. sym c.if-may_come.false ∙ (c.may_come.ensures past after).1 came)

pub returns-else-may_come-clause-followed : goal.returns-else-may_come-clause-followed
returns-else-may_come-clause-followed c = λ past after good. absurd (false_true good)

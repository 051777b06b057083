use Rattle.std.proofs.Common.{arith, refl, sym, ◌∙◌}
use Rattle.run_witness.proofs.JudgingLemmas.{refuted}
use Rattle.run_witness.proofs.judging.is_kept.Goals as goal

pub returns-then-not-keeps : goal.returns-then-not-keeps
returns-then-not-keeps c = refuted (λ all. sym c.if-not-keeps.true ∙ c.keeps.ensures.1
    (all c.loop-at.at c.loop-at-test.true))

pub returns : goal.returns
returns c = (λ good at less. c.loop-at.invariant at (omega (arith, c.loop-at-test.false)), λ all. refl)

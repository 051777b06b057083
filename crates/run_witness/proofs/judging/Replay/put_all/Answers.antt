use Rattle.std.proofs.Common.{arith, sym, ◌∙◌}
use Rattle.run_witness.proofs.JudgingLemmas.{plain_step, put_more, put_whole}
use Rattle.run_witness.proofs.judging.Replay.put_all.Goals as goal

pub loop-step-preserved : goal.loop-step-preserved
loop-step-preserved c = λ apart thing run are start.
    put_more run c.args.steps.now c.loop-step.step-index c.step-item.result c.loop-step.self c.put.new.self
    (omega (arith, c.loop-step-test.true)) c.step-item.is (c.loop-step.invariant apart thing run are start)
    (λ before was. c.in_ok-put.ensures.good apart thing run before are was c.if-not-branch.false)

pub returns-then-not-branch-clause-bad : goal.returns-then-not-branch-clause-bad
returns-then-not-branch-clause-bad c = λ apart thing run are start plain.
    sym c.if-not-branch.true
    ∙ c.in_ok-put.ensures.bad apart thing run _ are (c.loop-step.invariant apart thing run are start)
    (plain_step run c.args.steps.now c.loop-step.step-index c.step-item.result (omega
    (arith, c.loop-step-test.true)) c.step-item.is plain)

pub returns-clause-good : goal.returns-clause-good
returns-clause-good c = λ apart thing run are start good.
    put_whole run c.args.steps.now c.loop-step.step-index c.loop-step.self (omega (arith, c.loop-step-test.false))
    (c.loop-step.invariant apart thing run are start)

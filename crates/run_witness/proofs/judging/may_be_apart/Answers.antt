use Rattle.std.proofs.Common.{arith, sym, ◌∙◌}
use Rattle.run_witness.proofs.BusyLemmas.{all_lent, lent_more, one_not_lent}
use Rattle.run_witness.proofs.judging.may_be_apart.Goals as goal

pub loop-op-preserved : goal.loop-op-preserved
loop-op-preserved c =
    lent_more c.args.facts.now c.args.apart.now c.loop-op.op-index (omega (arith, c.loop-op-test.true)) c.loop-op.invariant
    (sym c.is_lent.ensures ∙ c.if-not-is_lent.false)

pub returns-then-not-is_lent : goal.returns-then-not-is_lent
returns-then-not-is_lent c = λ asked thing run are.
    one_not_lent asked thing run c.args.facts.now c.args.apart.now c.loop-op.op-index are (omega
    (arith, c.loop-op-test.true))
    (sym c.is_lent.ensures ∙ c.if-not-is_lent.true)

pub returns : goal.returns
returns c = λ asked thing run are.
    all_lent asked thing run c.args.facts.now c.args.apart.now c.loop-op.op-index are (omega (arith, c.loop-op-test.false))
    c.loop-op.invariant

use Rattle.std.proofs.Common.{arith, refl}
use Rattle.run_witness.proofs.BusyLemmas.{no_entry_more, none_has_entry, one_has_entry}
use Rattle.run_witness.proofs.judging.some_has_entry.Goals as goal

pub loop-op-preserved : goal.loop-op-preserved
loop-op-preserved c = λ past after.
    no_entry_more past c.args.strand c.args.ops.now c.loop-op.op-index (omega (arith, c.loop-op-test.true))
    (c.loop-op.invariant past after) c.has_entry.result (c.has_entry.ensures past after) c.if-has_entry.false

pub returns-then-has_entry : goal.returns-then-has_entry
returns-then-has_entry c = λ past after. (
  λ good. one_has_entry past c.args.strand c.args.ops.now c.loop-op.op-index (omega (arith, c.loop-op-test.true))
      ((c.has_entry.ensures past after).0 c.if-has_entry.true),
  λ some. refl,
)

pub returns : goal.returns
returns c = λ past after. none_has_entry past c.args.strand c.args.ops.now c.loop-op.op-index (omega
    (arith, c.loop-op-test.false))
    (c.loop-op.invariant past after)

use Rattle.std.proofs.Common.{arith, reverse, take}
use Rattle.std.proofs.lemmas.Result.{err_from_is_err_and}
use Rattle.run_witness.proofs.FactsLemmas.{seen_all, seen_illegal, seen_more}
use Rattle.run_witness.proofs.facts.see_all.Goals as goal

pub returns-in_err-see-clause-illegal : goal.returns-in_err-see-clause-illegal
returns-in_err-see-clause-illegal c = λ is start.
    let p = err_from_is_err_and c.from_residual.result c.from_residual.ensures.1 in
    seen_illegal c.args.lines.now c.loop-line.line-index c.line-item.result c.loop-line-test.true c.line-item.is
    (c.in_err-see.ensures.illegal (cc (is, p.1, p.2)) (reverse (take c.loop-line.line-index c.args.lines.now))
    (c.loop-line.invariant start))

pub loop-line-preserved : goal.loop-line-preserved
loop-line-preserved c = λ start.
    seen_more c.args.thing c.args.lines.now c.loop-line.line-index c.line-item.result c.loop-line.survey c.see.new.self
    (omega (arith, c.loop-line-test.true)) c.line-item.is (c.loop-line.invariant start) c.in_ok-see.ensures.seen

pub returns-clause-seen : goal.returns-clause-seen
returns-clause-seen c = λ start.
    seen_all c.args.thing c.args.lines.now c.loop-line.line-index c.loop-line.survey (omega (arith, c.loop-line-test.false))
    (c.loop-line.invariant start)

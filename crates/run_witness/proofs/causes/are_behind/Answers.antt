use Rattle.std.proofs.Common.{arith}
use Rattle.run_witness.proofs.CausesLemmas.{behind_all, behind_more, behind_none, not_behind}
use Rattle.run_witness.proofs.causes.are_behind.Goals as goal

pub loop-place-init : goal.loop-place-init
loop-place-init c = λ apart thing run are. behind_none run c.args.placing.now c.new-causes.result
    (c.new-causes.ensures run apart c.args.placing.now)

pub loop-place-preserved : goal.loop-place-preserved
loop-place-preserved c = λ apart thing run are.
    let before = c.loop-place.invariant apart thing run are in
    behind_more run c.args.placing.now c.loop-place.place c.loop-place.causes c.see.new.self c.in_ok-see.field-0 before
    (c.in_ok-see.ensures apart thing run are c.loop-place-test.true before.causes) c.if-not-branch.false

pub returns-then-not-branch : goal.returns-then-not-branch
returns-then-not-branch c = λ apart thing run are.
    let before = c.loop-place.invariant apart thing run are in
    not_behind thing run c.args.facts.now c.args.placing.now c.loop-place.place c.see.new.self c.in_ok-see.field-0 are
    c.loop-place-test.true
    (c.in_ok-see.ensures apart thing run are c.loop-place-test.true before.causes) c.if-not-branch.true

pub returns : goal.returns
returns c = λ apart thing run are.
    behind_all thing run c.args.facts.now c.args.placing.now c.loop-place.place c.loop-place.causes are
    (omega (arith, c.loop-place-test.false)) (c.loop-place.invariant apart thing run are)

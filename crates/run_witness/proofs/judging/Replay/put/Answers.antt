use Rattle.std.proofs.Common.{sym, ◌∙◌}
use Rattle.run_witness.proofs.JudgingLemmas.{put_good, put_bad}
use Rattle.run_witness.proofs.judging.Replay.put.Goals as goal

pub returns-then-branch-clause-good : goal.returns-then-branch-clause-good
returns-then-branch-clause-good c =
    put_good c.args.facts.now c.args.step.now c.args.self.now c.place.new.self c.follow.new.self c.follow.result
    c.follow.ensures.exact
    c.follow.ensures.followed c.follow.ensures.called c.follow.ensures.placing c.in_ok-place.ensures.checker
    c.in_ok-place.ensures.called
    (λ apart thing run before are was. c.in_ok-place.ensures.good apart thing run before are was c.if-branch.true)

pub returns-then-branch-clause-bad : goal.returns-then-branch-clause-bad
returns-then-branch-clause-bad c =
    put_bad c.args.facts.now c.args.step.now c.args.self.now c.place.new.self c.follow.result c.follow.ensures.exact
    c.in_ok-place.ensures.checker

pub returns-else-branch-clause-bad : goal.returns-else-branch-clause-bad
returns-else-branch-clause-bad c = λ apart thing run before are was plain.
    sym c.if-branch.false ∙ c.in_ok-place.ensures.bad apart thing run before are was plain.each

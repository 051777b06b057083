use Rattle.std.proofs.Common.{sym, ◌∙◌}
use Rattle.run_witness.proofs.JudgingLemmas.{refuted}
use Rattle.run_witness.proofs.judging.is_shown.Goals as goal

pub returns-then-branch : goal.returns-then-branch
returns-then-branch c = λ apart run steps are placing.
    let behind = c.in_ok-are_behind.ensures apart c.args.thing run are in
    let both = c.hold_both.ensures apart run steps are placing in
    (λ good. (behind.0 c.if-branch.true, both.0 good), λ shown. both.1 shown.1)

pub returns-else-branch : goal.returns-else-branch
returns-else-branch c = λ apart run steps are placing.
    refuted (λ shown. sym c.if-branch.false ∙ (c.in_ok-are_behind.ensures apart c.args.thing run are).1 shown.0)

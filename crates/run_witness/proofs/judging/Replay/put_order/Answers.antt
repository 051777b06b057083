use Rattle.std.proofs.Common.{reverse, sym, ◌∙◌}
use Rattle.run_witness.proofs.JudgingLemmas.{ok_more}
use Rattle.run_witness.proofs.judging.Replay.put_order.Goals as goal

pub returns-then-branch-clause-good : goal.returns-then-branch-clause-good
returns-then-branch-clause-good c =
    ok_more c.place.result
    (λ good put apart thing run are start is.
    let was = c.in_ok-put_all.ensures.good apart thing run are start c.if-branch.true in
    let last = put apart thing run (reverse c.args.steps.now) are was is in
    record { placing = last.placing; legal = was.legal; well = (was.well, last.well, last.busy) }) c.place.ensures.good

pub returns-then-branch-clause-bad : goal.returns-then-branch-clause-bad
returns-then-branch-clause-bad c =
    ok_more c.place.result
    (λ good put apart thing run are start each legal.
    put apart thing run (reverse c.args.steps.now) are
    (c.in_ok-put_all.ensures.good apart thing run are start c.if-branch.true) each)
    c.place.ensures.bad

pub returns-else-branch-clause-bad : goal.returns-else-branch-clause-bad
returns-else-branch-clause-bad c = λ apart thing run are start each legal.
    sym c.if-branch.false ∙ c.in_ok-put_all.ensures.bad apart thing run are start (record { each = each.0; legal = legal })

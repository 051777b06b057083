use Rattle.std.proofs.Common.{sym, ◌∙◌}
use Rattle.run_witness.proofs.JudgingLemmas.{ok_more, refuted}
use Rattle.run_witness.proofs.judging.judge_by.Goals as goal

pub returns-then-may_be_apart : goal.returns-then-may_be_apart
returns-then-may_be_apart c =
    ok_more c.judge_lines.result
    (λ good judged run are. judged c.args.apart.now run are
    ((c.may_be_apart.ensures c.args.apart.now c.args.thing run are).0 c.if-may_be_apart.true)) c.judge_lines.ensures

pub returns-else-may_be_apart : goal.returns-else-may_be_apart
returns-else-may_be_apart c = λ run are.
    refuted (λ witness. sym c.if-may_be_apart.false ∙
    (c.may_be_apart.ensures c.args.apart.now c.args.thing run are).1 witness.order.alone)

use Rattle.std.proofs.Common.{sym, ◌∙◌}
use Rattle.run_orders.specs.Orders.{lines_of}
use Rattle.run_witness.proofs.BusyLemmas.{stands_busy}
use Rattle.run_witness.proofs.JudgingLemmas.{false_true, ok_more}
use Rattle.run_witness.proofs.judging.Replay.place.Goals as goal

pub returns-then-finds_busy-clause-good : goal.returns-then-finds_busy-clause-good
returns-then-finds_busy-clause-good c =
    ok_more c.put.result
    (λ good put apart thing run before are was is.
    let well = put apart thing run before are was.placing (c.frame-who.ensures (lines_of before) was.after) is in
    record {
      placing = well.0;
      well = well.1;
      busy = (c.finds_busy.ensures apart thing run before are was).0 c.if-finds_busy.true;
    }) c.put.ensures.good

pub returns-then-finds_busy-clause-bad : goal.returns-then-finds_busy-clause-bad
returns-then-finds_busy-clause-bad c =
    ok_more c.put.result
    (λ good put apart thing run before are was each.
    put apart thing run before are was.placing (c.frame-who.ensures (lines_of before) was.after) each) c.put.ensures.bad

pub returns-else-finds_busy-clause-good : goal.returns-else-finds_busy-clause-good
returns-else-finds_busy-clause-good c = λ apart thing run before are was is. absurd (false_true is)

pub returns-else-finds_busy-clause-bad : goal.returns-else-finds_busy-clause-bad
returns-else-finds_busy-clause-bad c = λ apart thing run before are was each.
    sym c.if-finds_busy.false
    ∙ (c.finds_busy.ensures apart thing run before are was).1 (stands_busy apart run before c.args.step.now each.1)

use Rattle.std.proofs.Common.{sym}
use Rattle.history_rules.specs.declared.wait.Wait.{Wait}
use Rattle.history_rules.specs.Waits.{expiry_in}
use Rattle.history_rules.proofs.TimeLemmas.{least-more}
use Rattle.history_book.proofs.time_points.next_expiry.Goals as goal

pub loop-wait-preserved : goal.loop-wait-preserved
loop-wait-preserved c =
    let none : Wait = record { op = 0; timer = 0 } in
    rw (c.with_expiry-least.ensures, c.expiry_in.ensures, c.loop-wait.invariant) (sym (least-more
    (expiry_in c.args.expiries.now) c.args.now c.args.waits.now c.loop-wait.wait-index none
    c.loop-wait-test.true))

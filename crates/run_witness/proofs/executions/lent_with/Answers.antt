use Rattle.run_witness.proofs.ExecutionsLemmas.{lent_here, lent_not}
use Rattle.run_witness.proofs.executions.lent_with.Goals as goal

pub returns-then-is_lent : goal.returns-then-is_lent
returns-then-is_lent c = λ past after known op.
    let line = c.args.line.now in
    rw c.op_begun.ensures (lent_here past line.thread line.does c.args.waiter.now c.is_lent.result known
    (λ o is. c.is_lent.ensures past o after is) c.if-is_lent.true op)

pub returns-else-is_lent : goal.returns-else-is_lent
returns-else-is_lent c = λ past after known op.
    let line = c.args.line.now in
    lent_not past line.thread line.does c.args.waiter.now c.is_lent.result known
    (λ o is. c.is_lent.ensures past o after is) c.if-is_lent.false op

use Rattle.std.proofs.Common.{sym, ◌∙◌}
use Rattle.run_witness.proofs.ExecutionsLemmas.{idle_here, idle_not}
use Rattle.run_witness.proofs.executions.idle_with.Goals as goal

pub returns-then-is_straight : goal.returns-then-is_straight
returns-then-is_straight c = λ past after known called op strand begun.
    let line = c.args.line.now in
    idle_here c.args.apart.now past line.thread line.does c.args.waiter.now c.args.call c.unheld.result known called
    (sym c.is_straight.ensures ∙ c.if-is_straight.true) (c.unheld.ensures past after) op strand begun

pub returns-else-is_straight : goal.returns-else-is_straight
returns-else-is_straight c = λ past after known called op strand begun.
    let line = c.args.line.now in
    idle_not c.args.apart.now past line.thread line.does c.args.call called (sym c.is_straight.ensures
    ∙ c.if-is_straight.false) op strand
    begun

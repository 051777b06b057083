use Rattle.chat_handlers.proofs.LinesLemmas.{begins_long, begins_none, begins_with}
use Rattle.std.proofs.Common.{arith, sym}
use Rattle.chat_handlers.proofs.lines.next_line.Goals as goal

pub returns-in-None-clause-none : goal.returns-in-None-clause-none
returns-in-None-clause-none c = begins_none _ (sym c.in-None.ensures)

pub returns-then-at-le-MOST_LINE-clause-begins : goal.returns-then-at-le-MOST_LINE-clause-begins
returns-then-at-le-MOST_LINE-clause-begins c = begins_with _ _ (sym c.in-Some.ensures) (omega arith)

pub returns-else-at-le-MOST_LINE-clause-none : goal.returns-else-at-le-MOST_LINE-clause-none
returns-else-at-le-MOST_LINE-clause-none c = begins_long _ _ (sym c.in-Some.ensures) (omega arith)

use Rattle.session_orders.specs.Listed.{events_in}
use Rattle.order_questions.specs.Answer.{IsBest}
use Rattle.order_questions.proofs.best.shortest.Given as goal

abbrev pub invariant-loop-i : goal.invariant-loop-i
invariant-loop-i l = IsBest l.condition (events_in l.histories) l.i l.best

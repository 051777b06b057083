use Rattle.session_orders.specs.Listed.{events_in}
use Rattle.order_questions.specs.Handlers.{AreHandlersOf}
use Rattle.order_questions.proofs.handlers.handlers_of.Given as goal

abbrev pub invariant-loop-i : goal.invariant-loop-i
invariant-loop-i l = AreHandlersOf (events_in l.histories) l.i (events_in l.lists.items)

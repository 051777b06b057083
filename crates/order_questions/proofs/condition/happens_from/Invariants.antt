use Rattle.order_questions.proofs.ConditionLemmas.{NoneFrom}
use Rattle.order_questions.proofs.condition.happens_from.Given as goal

abbrev pub invariant-loop-at : goal.invariant-loop-at
invariant-loop-at l = NoneFrom l.shown l.events l.from l.at

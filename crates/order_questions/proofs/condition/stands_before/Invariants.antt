use Rattle.order_questions.proofs.ConditionLemmas.{NoneBefore}
use Rattle.order_questions.proofs.condition.stands_before.Given as goal

abbrev pub invariant-loop-at : goal.invariant-loop-at
invariant-loop-at l = NoneBefore l.first l.second l.events l.at

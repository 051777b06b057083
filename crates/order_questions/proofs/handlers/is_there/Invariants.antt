use Rattle.order_questions.proofs.HandlerLemmas.{NoneIs}
use Rattle.order_questions.proofs.handlers.is_there.Given as goal

abbrev pub invariant-loop-list : goal.invariant-loop-list
invariant-loop-list l = NoneIs l.lists l.shown l.list-index

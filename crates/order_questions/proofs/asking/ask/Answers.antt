use Rattle.order_questions.proofs.AnswerLemmas.{is_answer}
use Rattle.order_questions.proofs.asking.ask.Goals as goal

pub returns-clause-answer : goal.returns-clause-answer
returns-clause-answer c =
    is_answer c.args.script.now c.args.bounds.reactor c.args.condition c.in_ok-orders.orders c.answer_of-answer.result
    c.in_ok-orders.ensures.right c.in_ok-orders.ensures.whole c.answer_of-answer.ensures

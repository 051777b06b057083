use Rattle.op_handlers.proofs.SpentLemmas.{marks-AnswersMarks}
use Rattle.op_handlers.proofs.handler.Handler.of.Goals as goal

pub returns : goal.returns
returns g c m a = search marks-AnswersMarks

use Rattle.std.proofs.Common.{ap}
use Rattle.std.proofs.Math.Logic.{∥∥₁_elim, ∥∥₁_prop}
use Rattle.op_handlers.specs.declared.call.Spend.TheVariants.{Discard}
use Rattle.op_handlers.proofs.SpentLemmas.{answer-AnswersMarks}
use Rattle.op_handlers.proofs.handler.Handler.discard.Goals as goal

pub call_once-requires : goal.call_once-requires
call_once-requires g c = ∥∥₁_elim c.args.self.marked.1 ∥∥₁_prop (λ a. a.callable Discard tt)

pub returns : goal.returns
returns g c = ap (λ r. r.mark) (answer-AnswersMarks c.args.self.marked Discard _ tt c.call_once.ensures)

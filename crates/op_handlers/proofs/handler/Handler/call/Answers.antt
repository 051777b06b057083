use Rattle.std.proofs.Common.{arith, ap}
use Rattle.std.proofs.Math.Logic.{∥∥₁_elim, ∥∥₁_prop}
use Rattle.op_handlers.specs.declared.call.Spend.TheVariants.{Execute}
use Rattle.op_handlers.proofs.SpentLemmas.{answer-AnswersMarks}
use Rattle.op_handlers.proofs.handler.Handler.call.Goals as goal

pub call_once-requires : goal.call_once-requires
call_once-requires g c =
    ∥∥₁_elim c.args.self.marked.1 ∥∥₁_prop (λ a. a.callable (Execute c.args.call) (omega arith, omega arith, omega arith))

pub returns : goal.returns
returns g c =
    let ran =
    answer-AnswersMarks c.args.self.marked (Execute c.args.call) c.call_once.result
    (omega arith, omega arith, omega arith) c.call_once.ensures in
    record { mark = ap (λ r. r.mark) ran; class = ap (λ r. r.class) ran; begun = ap (λ r. r.begun) ran }

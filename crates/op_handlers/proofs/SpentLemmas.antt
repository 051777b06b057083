-- What the marks of a job say of its answers.
use Rattle.std.proofs.Common.{◌≡◌, ap}
use Rattle.std.proofs.Props.{props}
use Rattle.std.proofs.Math.Logic.{∥∥₁_elim}
use Rattle.op_handlers.specs.Marks.{FixedMarks, fixed}
use Rattle.op_handlers.specs.Job.{AnswersBy, AnswersMarks, IsSpend, answer, marks-unique, Marks-set}
use Rattle.op_handlers.specs.declared.call.Spend.{Spend}
use Rattle.op_handlers.specs.declared.call.Ran.{Ran}

Ran-set : IsSet Ran
Ran-set = hlevel props

-- a job answers by its marks
pub answer-AnswersMarks : {pre : Spend → Type 0} {post : Spend → Ran → Type 0} (h : AnswersMarks pre post) (s : Spend)
    (r : Ran) → IsSpend s → post s r → r ≡ answer h.0 s
answer-AnswersMarks h s r n p = ∥∥₁_elim h.1 (Ran-set r (answer h.0 s)) (λ a. a.only s r n p)

-- the marks of a job are any by which it answers
pub marks-AnswersMarks : {pre : Spend → Type 0} {post : Spend → Ran → Type 0} (h : AnswersMarks pre post)
    (m : FixedMarks) → AnswersBy pre post m → fixed h.0 ≡ fixed m
marks-AnswersMarks h m b = ap fixed (∥∥₁_elim h.1 (Marks-set h.0 m) (λ a. marks-unique h.0 m a b))

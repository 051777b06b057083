-- What the job of a handler answers (Asio reference, "Requirements on asynchronous operations": a
-- completion handler is called at most once).
use Rattle.std.specs.Prelude.{◌≡◌, ◌<◌, ◌^◌}
use Rattle.std.specs.Coded.{Coded-set}
use Rattle.std.proofs.Common.{ap, lit<}
use Rattle.std.proofs.Math.Logic.{∥∥₁_elim, ∥∥₁_prop}
use mathlib.Core.HLevel.{Σ_prop_path}
use Rattle.asio_types.specs.Code.{class_of_code}
use Rattle.asio_types.specs.declared.code.Class.TheVariants as class
use Rattle.asio_types.specs.declared.code.Code.TheVariants as code
use Rattle.op_handlers.specs.Marks.{FixedMarks, marks_code}
use Rattle.op_handlers.specs.declared.call.Spend.{Spend}
use Rattle.op_handlers.specs.declared.call.Spend.TheVariants.{Execute, Discard}
use Rattle.op_handlers.specs.declared.call.Ran.{Ran}

-- what a job with these marks answers: executed, its run mark with the class of the code and the
-- position of the begin; discarded, its drop mark
abbrev pub answer : FixedMarks → Spend → Ran
answer m (Execute c) = record { mark = m.run; class = class_of_code c.code; begun = c.begun }
answer m Discard = record { mark = m.drop; class = class.Ok; begun = 0 }

-- a way to spend a handler whose numbers fit their types
abbrev pub IsSpend : Spend → Type 0
IsSpend (Execute c) = (c.op < 2 ^ 32) × (c.size < 2 ^ 32) × (c.begun < 2 ^ 64)
IsSpend Discard = Unit {0}

-- a job that may be called where `pre` holds, and may answer what `post` allows, has these marks:
-- it may always be called, and it gives their answer and no other
pub record AnswersBy (pre : Spend → Type 0) (post : Spend → Ran → Type 0) (m : FixedMarks)
    : Type 0 where
  pub callable : (s : Spend) → IsSpend s → pre s
  pub only : (s : Spend) (r : Ran) → IsSpend s → post s r → r ≡ answer m s
  pub possible : (s : Spend) → IsSpend s → post s (answer m s)

-- it has marks, and so one pair of them
abbrev pub AnswersMarks : (Spend → Type 0) → (Spend → Ran → Type 0) → Type 0
AnswersMarks pre post = (m : FixedMarks) × ∥ AnswersBy pre post m ∥₁

-- a way to execute a handler
abbrev first_call : Spend
first_call = Execute (record { op = 0; code = code.Ok; size = 0; begun = 0 })

-- no job has two pairs of marks
pub marks-unique : {pre : Spend → Type 0} {post : Spend → Ran → Type 0} (m n : FixedMarks) →
    AnswersBy pre post m → AnswersBy pre post n → m ≡ n
marks-unique m n a b =
    let c : IsSpend first_call = (lit< tt, lit< tt, lit< tt) in
    let run : m.run ≡ n.run = ap (λ r. r.mark) (b.only first_call _ c (a.possible first_call c)) in
    let drop : m.drop ≡ n.drop = ap (λ r. r.mark) (b.only Discard _ tt (a.possible Discard tt)) in
    λ i. record { run = run i; drop = drop i }

-- two pairs of marks are equal in one way at most
pub Marks-set : (m n : FixedMarks) → IsProp (m ≡ n)
Marks-set = Coded-set marks_code

-- so a type may keep it as a fact
pub AnswersMarks-prop : (pre : Spend → Type 0) (post : Spend → Ran → Type 0) →
    IsProp (AnswersMarks pre post)
AnswersMarks-prop pre post x y =
    Σ_prop_path (λ m. ∥∥₁_prop) (∥∥₁_elim x.1 (Marks-set x.0 y.0)
    (λ a. ∥∥₁_elim y.1 (Marks-set x.0 y.0) (λ b. marks-unique x.0 y.0 a b)))

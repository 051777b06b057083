-- What a handler is seen as: the numbers that it answers.
use Rattle.std.specs.Prelude.{ℕ, Option, Some, None, refl}
use Rattle.std.specs.Coded.{Coded, code_by, coded×, coded_ℕ}
use Rattle.asio_types.specs.declared.code.Code.{Code}
use Rattle.op_handlers.specs.declared.call.Call.{Call}

-- `run` is answered where the handler is executed, by what it is called with; `drop` where it is
-- discarded
pub record Marks : Type 0 where
  pub run : Call → ℕ
  pub drop : ℕ

-- two numbers, of which the first is answered whatever the call
pub record FixedMarks : Type 0 where
  pub run : ℕ
  pub drop : ℕ

abbrev pub marks_code : Coded FixedMarks
marks_code =
    code_by (ℕ × ℕ) (coded× coded_ℕ coded_ℕ) (λ m. (m.run, m.drop))
    (λ p. record { run = p.0; drop = p.1 }) (λ _. refl)

-- the marks of a handler that answers these numbers
abbrev pub fixed : FixedMarks → Marks
fixed m = record { run = λ call. m.run; drop = m.drop }

-- the drop mark of a handler, 0 where there is none
abbrev pub drop_mark_of : {H : Type 0} → (H → Marks) → Option H → ℕ
drop_mark_of marks None = 0
drop_mark_of marks (Some handler) = (marks handler).drop

-- the arguments of a handler
abbrev pub call_of : ℕ → Code → ℕ → ℕ → Call
call_of op code size begun = record { op = op; code = code; size = size; begun = begun }

-- the run marks of the handlers of operations, each called for its own operation
abbrev pub own_marks : (ℕ → Call → ℕ) → ℕ → Code → ℕ → ℕ → ℕ
own_marks run op code size begun = run op (call_of op code size begun)

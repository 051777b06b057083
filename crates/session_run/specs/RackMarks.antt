-- The marks that the handlers of a rack have.
use Rattle.std.specs.Prelude.{◌≡◌, ℕ, Bool, Option, Some, None, length, if◌then◌else◌}
use Rattle.std.specs.List.{range_with_len, sum_by}
use Rattle.op_handlers.specs.Marks.{Marks, drop_mark_of}
use Rattle.op_handlers.specs.Rack.{handler_at, handlers_in}
use Rattle.op_handlers.specs.declared.call.Call.{Call}
use Rattle.op_handlers.specs.declared.rack.Rack.{Rack}

-- the run mark of a handler, by what it is called with, where there is one
abbrev pub run_mark_of : {H : Type 0} → (H → Marks) → Option H → Call → ℕ
run_mark_of marks None = λ call. 0
run_mark_of marks (Some handler) = (marks handler).run

-- the run mark of the handler with a number, by what it is called with
abbrev pub rack_run_mark : {H : Type 0} → (H → Marks) → Rack H → ℕ → Call → ℕ
rack_run_mark marks rack n = run_mark_of marks (handler_at rack n)

-- each handler has one run mark whatever it is called with
abbrev pub HasFixedRuns : {H : Type 0} → (H → Marks) → Rack H → (ℕ → ℕ) → Type 0
HasFixedRuns marks rack run = (n : ℕ) (call : Call) → rack_run_mark marks rack n call ≡ run n

-- the drop mark of the handler with a number
abbrev pub drop_mark : {H : Type 0} → (H → Marks) → Rack H → ℕ → ℕ
drop_mark marks rack n = drop_mark_of marks (handler_at rack n)

-- the sum of the drop marks of the handlers of a rack, but for those whose numbers are spared
abbrev pub drop_marks_but : {H : Type 0} → (H → Marks) → (ℕ → Bool) → Rack H → ℕ
drop_marks_but marks spared rack =
    sum_by (λ n. if spared n then 0 else drop_mark marks rack n)
    (range_with_len 0 (length (handlers_in rack)))

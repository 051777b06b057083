-- What a rack is seen as.
use Rattle.std.specs.Prelude.{◌≡◌, ℕ, ◌<◌, List, length, map, slice_get, All, IsSome, Option, None, Some}
use Rattle.std.specs.List.{sum_by}
use Rattle.std.specs.Option.{option_flatten, option_map}
use Rattle.op_handlers.specs.Marks.{Marks, drop_mark_of}
use Rattle.op_handlers.specs.declared.rack.Rack.{Rack}

-- for each number the handler, or nothing where it was taken
abbrev pub handlers_in : {H : Type 0} → Rack H → List (Option H)
handlers_in rack = rack.slots.items

-- for each number the marks of the handler, or nothing where it was taken
abbrev pub marks_in : {H : Type 0} → (H → Marks) → Rack H → List (Option Marks)
marks_in marks rack = map (option_map marks) (handlers_in rack)

-- the handler at a number, if it is below the count and was not taken
abbrev pub handler_at : {H : Type 0} → Rack H → ℕ → Option H
handler_at rack a = option_flatten (slice_get (handlers_in rack) a)

-- the sum of the drop marks of the handlers that are there
abbrev pub drop_marks : {H : Type 0} → (H → Marks) → List (Option H) → ℕ
drop_marks marks handlers = sum_by (drop_mark_of marks) handlers

-- the sum of the drop marks of the handlers that were let go of, as a rack was told
abbrev pub let_go_of : {H : Type 0} → Rack H → ℕ
let_go_of rack = rack.let_go

-- no handler is left, and the numbers stay
pub record AllTaken {H : Type 0} (old new : Rack H) : Type 0 where
  pub size : length (handlers_in new) ≡ length (handlers_in old)
  pub none : (n : ℕ) → handler_at new n ≡ None

-- no handler was taken
abbrev pub IsWholeRack : {H : Type 0} → Rack H → Type 0
IsWholeRack rack = All IsSome (handlers_in rack)

-- each handler is there, and number n has the marks that `named` gives for n
abbrev pub HaveMarks : {H : Type 0} → (H → Marks) → (ℕ → Marks) → List (Option H) → Type 0
HaveMarks marks named handlers =
    (n : ℕ) → n < length handlers →
    option_map marks (option_flatten (slice_get handlers n)) ≡ Some (named n)

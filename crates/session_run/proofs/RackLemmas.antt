-- The marks of the handlers of a whole rack, and what was taken from one.
use Rattle.std.proofs.Common.{◌≡◌, ℕ, zero, suc, ◌<◌, ◌≤◌, List, [], ◌∷◌, Option, Some, None, IsSome, true, length, ap, arith, refl, subst, sym, ◌∙◌}
use Rattle.std.specs.Option.{option_flatten, option_map}
use Rattle.std.specs.Prelude.{slice_get}
use Rattle.std.proofs.lemmas.Option.{slice_get-get_or}
use Rattle.session_script.specs.Script.{ScriptModel, is_op}
use Rattle.op_handlers.specs.Marks.{Marks, drop_mark_of}
use Rattle.op_handlers.specs.Rack.{AllTaken, IsWholeRack, handler_at, handlers_in}
use Rattle.op_handlers.specs.declared.call.Call.{Call}
use Rattle.op_handlers.specs.declared.rack.Rack.{Rack}
use Rattle.session_run.specs.RackMarks.{drop_mark, rack_run_mark, run_mark_of}

-- the number of an operation is that of an act
op_within : (script : ScriptModel) (n : ℕ) → is_op script n ≡ true → n < length script.acts
op_within script n = within script.acts n
  where
    within : (acts : List _) (n : ℕ) → is_op (record script { acts = acts }) n ≡ true → n < length acts
    within [] n is = cc is
    within (entry ∷ acts) zero is = omega arith
    within (entry ∷ acts) (suc n) is = let less = within acts n is in omega arith

-- a handler that is there has its two marks
marks_of_some : {H : Type 0} (marks : H → Marks) (handler : Option H) → IsSome handler
    → option_map marks handler
    ≡ Some (record { run = run_mark_of marks handler; drop = drop_mark_of marks handler })
marks_of_some marks None is = cc is
marks_of_some marks (Some handler) is = refl

-- the handler of an operation is there
has_handler : {H : Type 0} (script : ScriptModel) (rack : Rack H) → IsWholeRack rack
    → length script.acts ≤ length (handlers_in rack) → (n : ℕ) → is_op script n ≡ true → IsSome (handler_at rack n)
has_handler script rack whole long n is =
    let within : n < length (handlers_in rack) = omega (arith, long, op_within script n is) in
    subst IsSome (sym (ap option_flatten (slice_get-get_or (handlers_in rack) n None within))) (whole n None within)

-- each operation of a script has the marks that a whole rack names for its handler
pub named_marks : {H : Type 0} (marks : H → Marks) (script : ScriptModel) (rack : Rack H) (run : ℕ → Call → ℕ)
    (drop : ℕ → ℕ)
    → run ≡ rack_run_mark marks rack → drop ≡ drop_mark marks rack → IsWholeRack rack
    → length script.acts ≤ length (handlers_in rack)
    → (n : ℕ) → is_op script n ≡ true
    → option_map marks (handler_at rack n) ≡ Some (record { run = run n; drop = drop n })
named_marks marks script rack run drop run_is drop_is whole long n is =
    marks_of_some marks (handler_at rack n) (has_handler script rack whole long n is)
    ∙ (λ i. Some (record { run = sym run_is i n; drop = sym drop_is i n }))

-- what was taken from a rack of the same size was taken from this one
pub all_taken : {H : Type 0} (old made new : Rack H) → length (handlers_in made) ≡ length (handlers_in old)
    → AllTaken made new → AllTaken old new
all_taken old made new same taken = record { size = taken.size ∙ same; none = taken.none }

-- the same, where the rack was left as it was
pub all_taken_kept : {H : Type 0} (old made new : Rack H) → handlers_in made ≡ handlers_in old → AllTaken made new →
    AllTaken old new
all_taken_kept old made new same taken = all_taken old made new (ap length same) taken

-- and where it was only told something since
pub all_taken_told : {H : Type 0} (old made new : Rack H) → handlers_in new ≡ handlers_in made → AllTaken old made →
    AllTaken old new
all_taken_told old made new same taken =
    record {
      size = ap length same ∙ taken.size;
      none = λ n. ap (λ hs. option_flatten (slice_get hs n)) same ∙ taken.none n;
    }

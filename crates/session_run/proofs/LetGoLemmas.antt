-- The drop marks of the handlers of which a session has no use.
use Rattle.std.proofs.Common.{◌≡◌, ℕ, ◌+◌, ◌≤◌, zero, suc, Bool, true, false, [], ◌∷◌, Option, Some, None, length, refl, sym, ap, ◌∙◌, arith}
use Rattle.std.specs.Prelude.{◌&&◌, not, replicate, slice_get, slice_index_or, if◌then◌else◌}
use Rattle.std.specs.List.{range_with_len, sum_by}
use Rattle.asio_types.specs.declared.event.Event.TheVariants as event
use Rattle.session_script.specs.Script.{ScriptModel, is_op}
use Rattle.history_rules.specs.Legal.{state_of}
use Rattle.history_rules.specs.State.{State, call_at, fresh}
use Rattle.execution_laws.specs.Kinds.{was_called}
use Rattle.execution_laws.specs.LetGo.{is_initiated, let_go_mark}
use Rattle.execution_laws.proofs.LetGoLemmas.{no_op_beyond, sums_below, sums_both, sums_far}
use Rattle.op_handlers.specs.Marks.{Marks, drop_mark_of}
use Rattle.op_handlers.specs.Rack.{drop_marks, handler_at, handlers_in}
use Rattle.op_handlers.specs.declared.rack.Rack.{Rack}
use Rattle.op_handlers.proofs.DiscardLemmas.{by_numbers}
use Rattle.strand_core.specs.Hands.{left_at}
use Rattle.session_run.specs.RackMarks.{drop_mark, drop_marks_but}

module _ {H : Type 0} (marks : H → Marks) where
  -- what is left of a handler that may be spared
  left_mark : (spared : Bool) (handler : Option H) →
      drop_mark_of marks (left_at spared handler) ≡ (if spared then 0 else drop_mark_of marks handler)
  left_mark true handler = refl
  left_mark false handler = refl

  -- where a rack of the same size has what isn't spared
  pub marks_left : (spared : ℕ → Bool) (old made : Rack H) →
      length (handlers_in made) ≡ length (handlers_in old) →
      ((n : ℕ) → handler_at made n ≡ left_at (spared n) (handler_at old n)) →
      drop_marks marks (handlers_in made) ≡ drop_marks_but marks spared old
  marks_left spared old made size each =
      let f : ℕ → ℕ = λ n. if spared n then 0 else drop_mark marks old n in
      by_numbers marks f (handlers_in made) 0
      (λ n.
      let same : n ≡ 0 + n = omega arith in
      ap (drop_mark_of marks) (each n) ∙ left_mark (spared n) (handler_at old n) ∙ ap f same)
      ∙ ap (λ count. sum_by f (range_with_len 0 count)) size

  -- what is told of the operations that were never initiated, and of what a session has no use for
  pub all_told : (script : ScriptModel) (s : State) (old made : Rack H) →
      length (handlers_in made) ≡ length (handlers_in old) → length script.acts ≤ length (handlers_in old) →
      ((n : ℕ) → handler_at made n ≡ left_at (is_op script n) (handler_at old n)) →
      sum_by (let_go_mark script (drop_mark marks old) s) (range_with_len 0 (length script.acts))
      + drop_marks marks (handlers_in made)
      ≡ drop_marks_but marks (is_initiated script s) old
  all_told script s old made size few each =
      ap (λ n. n + drop_marks marks (handlers_in made))
      (sums_far (let_go_mark script (drop_mark marks old) s) (length script.acts) (length (handlers_in old))
      (λ n beyond. far n beyond) (λ n beyond. far n (omega (arith, beyond, few))))
      ∙ (ap (λ n.
      sum_by (let_go_mark script (drop_mark marks old) s) (range_with_len 0 (length (handlers_in old))) + n)
      (marks_left (is_op script) old made size each)
      ∙ sums_both (let_go_mark script (drop_mark marks old) s) (λ n. if is_op script n then 0 else drop_mark marks old n)
      (λ n. if is_initiated script s n then 0 else drop_mark marks old n) (length (handlers_in old))
      (λ n. one_of (drop_mark marks old n) (is_op script n) (was_called (call_at s.context n))))
    where
      far : (n : ℕ) → length script.acts ≤ n → let_go_mark script (drop_mark marks old) s n ≡ 0
      far n beyond =
          ap (λ b. if b && not (was_called (call_at s.context n)) then drop_mark marks old n else 0)
          (no_op_beyond script n beyond)

      one_of : (drop : ℕ) (is called : Bool) →
          (if is && not called then drop else 0) + (if is then 0 else drop) ≡ (if is && called then 0 else drop)
      one_of drop true true = refl
      one_of drop true false = omega arith
      one_of drop false called = omega arith

-- before anything happened nothing was initiated
none_called : (count n : ℕ) → was_called (slice_index_or (replicate count fresh) n fresh).call ≡ false
none_called zero n = refl
none_called (suc count) zero = refl
none_called (suc count) (suc n) = none_called count n

-- nor where the reactor couldn't be set up
pub none_initiated : {H : Type 0} (marks : H → Marks) (script : ScriptModel) (told : Bool) (old : Rack H) →
    drop_marks_but marks (λ n. false) old
    ≡ drop_marks_but marks (is_initiated script (state_of script told (event.Fault ∷ []))) old
none_initiated marks script told old =
    sums_below (λ n. drop_mark marks old n)
    (λ n. if is_initiated script (state_of script told (event.Fault ∷ [])) n then 0 else drop_mark marks old n)
    (length (handlers_in old))
    (λ n less. sym (ap (λ b. if b then 0 else drop_mark marks old n) (none n)))
  where
    and_false : (b : Bool) → (b && false) ≡ false
    and_false true = refl
    and_false false = refl

    none : (n : ℕ) → is_initiated script (state_of script told (event.Fault ∷ [])) n ≡ false
    none n = ap (λ b. is_op script n && b) (none_called (length script.acts) n) ∙ and_false (is_op script n)

-- A task that collects wants an operation exactly while some are left.
use Rattle.std.specs.Prelude.{◌≡◌, ◌≤◌, ℕ, zero, suc, List, [], ◌∷◌, None, length, slice_get}
use Rattle.std.proofs.Common.{refl, arith}
use Rattle.op_future.specs.Tasks.{WantsWhileLeft}
use Rattle.parallel_group.specs.Collecting.{Collecting, task_state}

past_end : (xs : List ℕ) (i : ℕ) → slice_get xs i ≡ None → length xs ≤ i
past_end [] i none = omega arith
past_end (x ∷ xs) zero none = absurd (cc)
past_end (x ∷ xs) (suc i) none = let rest = past_end xs i none in omega (arith, rest)

none_past : (xs : List ℕ) (i : ℕ) → length xs ≤ i → slice_get xs i ≡ None
none_past [] i past = refl
none_past (x ∷ xs) zero past = absurd (omega (arith, past))
none_past (x ∷ xs) (suc i) past = none_past xs i (omega (arith, past))

pub wants_while_left : (c : Collecting) → WantsWhileLeft (task_state c)
wants_while_left c = (
  (λ none. let past = past_end c.ops (length c.found) none in omega (arith, past)),
  (λ left. none_past c.ops (length c.found) (omega (arith, left))),
)

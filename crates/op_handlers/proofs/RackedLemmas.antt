-- Lists of handlers that have given marks.
use Rattle.std.proofs.Common.{◌≡◌, ℕ, slice_get, slice_set, zero, suc, List, [], ◌∷◌, ◌++◌, length, Some, None, Option, All, IsSome, ap, arith, refl}
use Rattle.std.specs.Option.{option_map, option_flatten}
use Rattle.op_handlers.specs.Marks.{Marks}
use Rattle.op_handlers.specs.Rack.{HaveMarks}

module _ {H : Type 0} (marks : H → Marks) where
  -- one handler more
  pub HaveMarks-push : (named : ℕ → Marks) (handlers : List (Option H)) (h : H) → HaveMarks marks named handlers →
      marks h ≡ named (length handlers) → HaveMarks marks named (handlers ++ Some h ∷ [])
  HaveMarks-push named [] h have is zero below = ap Some is
  HaveMarks-push named [] h have is (suc n) below = absurd (omega arith)
  HaveMarks-push named (x ∷ xs) h have is zero below = have zero (omega arith)
  HaveMarks-push named (x ∷ xs) h have is (suc n) below =
      HaveMarks-push (λ k. named (suc k)) xs h (λ k less. have (suc k) (omega arith)) is n (omega arith)

  there : (o : Option H) (m : Marks) → option_map marks o ≡ Some m → IsSome o
  there None m is = cc
  there (Some h) m is = refl

  -- none of them was taken
  pub All-HaveMarks : (named : ℕ → Marks) (handlers : List (Option H)) → HaveMarks marks named handlers →
      All IsSome handlers
  All-HaveMarks named [] have k d below = absurd (omega arith)
  All-HaveMarks named (x ∷ xs) have zero d below = there x (named zero) (have zero (omega arith))
  All-HaveMarks named (x ∷ xs) have (suc k) d below =
      All-HaveMarks (λ n. named (suc n)) xs (λ n less. have (suc n) (omega arith)) k d (omega arith)

-- where a handler was taken nothing is
pub slice_get-taken : {H : Type 0} (handlers : List (Option H)) (a : ℕ) (h : H) →
    option_flatten (slice_get handlers a) ≡ Some h → slice_get (slice_set handlers a None) a ≡ Some None
slice_get-taken [] a h is = cc
slice_get-taken (x ∷ xs) zero h is = refl
slice_get-taken (x ∷ xs) (suc a) h is = slice_get-taken xs a h is

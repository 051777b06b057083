-- Lists of handlers of which one is taken, and the drop marks of those before it.
use Rattle.std.proofs.Common.{◌≡◌, ◌≢◌, ℕ, zero, suc, ◌+◌, ◌<◌, List, [], ◌∷◌, Option, None, length, get_or, take, refl, sym, ap, ◌∙◌, arith}
use Rattle.std.specs.Prelude.{slice_get, slice_set}
use Rattle.std.specs.List.{range_with_len, sum_by}
use Rattle.std.specs.Option.{option_flatten}
use Rattle.std.proofs.lemmas.List.Sums.{sum_by-cons, sum_by_more}
use Rattle.std.proofs.lemmas.Option.{slice_get-get_or}
use Rattle.op_handlers.specs.Marks.{Marks, drop_mark_of}

pub taken_same : {H : Type 0} (hs : List (Option H)) (op : ℕ) →
    option_flatten (slice_get (slice_set hs op None) op) ≡ None
taken_same [] op = refl
taken_same (h ∷ hs) zero = refl
taken_same (h ∷ hs) (suc op) = taken_same hs op

pub taken_other : {H : Type 0} (hs : List (Option H)) (op n : ℕ) → op ≢ n →
    option_flatten (slice_get (slice_set hs op None) n) ≡ option_flatten (slice_get hs n)
taken_other [] op n differ = refl
taken_other (h ∷ hs) zero zero differ = absurd (differ refl)
taken_other (h ∷ hs) zero (suc n) differ = refl
taken_other (h ∷ hs) (suc op) zero differ = refl
taken_other (h ∷ hs) (suc op) (suc n) differ = taken_other hs op n (λ same. differ (ap suc same))

-- one number more, whose drop mark is added
pub drop_marks_more : {H : Type 0} (marks : H → Marks) (hs : List (Option H)) (n mark : ℕ) → n < length hs →
    mark ≡ drop_mark_of marks (option_flatten (slice_get hs n)) →
    sum_by (drop_mark_of marks) (take (n + 1) hs) ≡ sum_by (drop_mark_of marks) (take n hs) + mark
drop_marks_more marks hs n mark less is =
    let at : drop_mark_of marks (option_flatten (slice_get hs n)) ≡ drop_mark_of marks (get_or hs n None) =
    ap (λ slot. drop_mark_of marks (option_flatten slot)) (slice_get-get_or hs n None less) in
    omega (arith, is, at, sum_by_more (drop_mark_of marks) hs n None less)

-- a sum over handlers is one over their numbers
pub by_numbers : {H : Type 0} (marks : H → Marks) (f : ℕ → ℕ) (hs : List (Option H)) (a : ℕ) →
    ((n : ℕ) → drop_mark_of marks (option_flatten (slice_get hs n)) ≡ f (a + n)) →
    sum_by (drop_mark_of marks) hs ≡ sum_by f (range_with_len a (length hs))
by_numbers marks f [] a each = refl
by_numbers marks f (h ∷ hs) a each =
    let here : a + 0 ≡ a = omega arith in
    let first : drop_mark_of marks h ≡ f a = each 0 ∙ ap f here in
    let later =
    by_numbers marks f hs (a + 1)
    (λ n. let next : a + suc n ≡ a + 1 + n = omega arith in each (suc n) ∙ ap f next) in
    let one = sum_by-cons (drop_mark_of marks) h hs in
    let two = sum_by-cons f a (range_with_len (a + 1) (length hs)) in
    omega (arith, first, later, one, two)

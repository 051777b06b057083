-- Lists that are made one by one.
use Rattle.std.proofs.Common.{◌≡◌, ℕ, zero, suc, ◌+◌, Bool, List, [], ◌∷◌, ◌++◌, Some, filter, sym, ap, ◌∙◌, arith}
use Rattle.std.specs.Prelude.{slice_get}
use Rattle.std.specs.List.{range_with_len}
use Rattle.std.proofs.lemmas.List.Elements.{filter-append}

range-more : (from n : ℕ) → range_with_len from (suc n) ≡ range_with_len from n ++ (from + n) ∷ []
range-more from zero = ap (λ k. k ∷ []) (omega arith)
range-more from (suc n) =
    let same : from + 1 + n ≡ from + suc n = omega arith in
    ap (λ ks. from ∷ ks) (range-more (from + 1) n ∙ ap (λ k. range_with_len (from + 1) n ++ k ∷ []) same)

-- one more number is looked at
pub ops_more : (test : ℕ → Bool) (n : ℕ) (old new : List ℕ) → new ≡ old ++ filter test (n ∷ []) →
    old ≡ filter test (range_with_len 0 n) → new ≡ filter test (range_with_len 0 (n + 1))
ops_more test n old new is_new is_old =
    let one : n + 1 ≡ suc n = omega arith in
    let none : 0 + n ≡ n = omega arith in
    let next : range_with_len 0 (n + 1) ≡ range_with_len 0 n ++ n ∷ [] =
    ap (range_with_len 0) one ∙ range-more 0 n ∙ ap (λ k. range_with_len 0 n ++ k ∷ []) none in
    is_new ∙ ap (λ ks. ks ++ filter test (n ∷ [])) is_old
    ∙ sym (ap (filter test) next ∙ filter-append test (range_with_len 0 n) (n ∷ []))

pub first_stays : {X : Type 0} (xs : List X) (x y : X) → slice_get xs 0 ≡ Some y → slice_get (xs ++ x ∷ []) 0 ≡ Some y
first_stays [] x y is = absurd (cc)
first_stays (z ∷ xs) x y is = is

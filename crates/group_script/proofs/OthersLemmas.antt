-- The other members of a group, by number.
use Rattle.std.proofs.Common.{◌≡◌, ℕ, zero, suc, ◌+◌, Bool, true, false, cond, List, [], ◌∷◌, ◌++◌, filter, map, refl, sym, ap, ◌∙◌, append_assoc, arith}
use Rattle.std.specs.List.{range_with_len}
use Rattle.std.proofs.lemmas.List.{map-append}
use Rattle.session_script.specs.Script.{Entry}

range-more : (a n : ℕ) → range_with_len a (suc n) ≡ range_with_len a n ++ (a + n) ∷ []
range-more a zero = ap (λ k. k ∷ []) (omega arith)
range-more a (suc n) =
    let same : a + 1 + n ≡ a + suc n = omega arith in
    ap (λ ks. a ∷ ks) (range-more (a + 1) n ∙ ap (λ k. range_with_len (a + 1) n ++ k ∷ []) same)

filter-append : (p : ℕ → Bool) (xs ys : List ℕ) → filter p (xs ++ ys) ≡ filter p xs ++ filter p ys
filter-append p [] ys = refl
filter-append p (x ∷ xs) ys = by_test (p x) (filter-append p xs ys)
  where
    by_test : (b : Bool) → filter p (xs ++ ys) ≡ filter p xs ++ filter p ys →
        cond b (x ∷ filter p (xs ++ ys)) (filter p (xs ++ ys)) ≡ cond b (x ∷ filter p xs) (filter p xs) ++ filter p ys
    by_test true rest = ap (λ ks. x ∷ ks) rest
    by_test false rest = rest

-- one more number is looked at
pub others-more : (f : ℕ → Entry) (p : ℕ → Bool) (n : ℕ) (initial old new : List Entry) →
    new ≡ old ++ map f (filter p (n ∷ [])) → old ≡ initial ++ map f (filter p (range_with_len 0 n)) →
    new ≡ initial ++ map f (filter p (range_with_len 0 (n + 1)))
others-more f p n initial old new is_new is_old =
    let one : n + 1 ≡ suc n = omega arith in
    let none : 0 + n ≡ n = omega arith in
    let next : range_with_len 0 (n + 1) ≡ range_with_len 0 n ++ n ∷ [] =
    ap (range_with_len 0) one ∙ range-more 0 n ∙ ap (λ k. range_with_len 0 n ++ k ∷ []) none in
    let both : map f (filter p (range_with_len 0 (n + 1)))
    ≡ map f (filter p (range_with_len 0 n)) ++ map f (filter p (n ∷ [])) =
    ap (λ ks. map f (filter p ks)) next ∙ ap (map f) (filter-append p (range_with_len 0 n) (n ∷ []))
    ∙ map-append f (filter p (range_with_len 0 n)) (filter p (n ∷ [])) in
    is_new ∙ ap (λ (es : List Entry). es ++ map f (filter p (n ∷ []))) is_old
    ∙ append_assoc initial (map f (filter p (range_with_len 0 n))) (map f (filter p (n ∷ [])))
    ∙ ap (λ (es : List Entry). initial ++ es) (sym both)

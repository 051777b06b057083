-- Numbers one after another, steps along links, and what is read of a list.
use Rattle.std.proofs.Common.{arith, ap, sym, ◌∙◌}
use Rattle.std.specs.Prelude.{◌≡◌, ℕ, zero, suc, ◌+◌, List, [], ◌∷◌, ◌++◌}
use Rattle.io_queues.specs.Linked.{linked, numbers, steps_on}

numbers_more : (from n : ℕ) → numbers from (n + 1) ≡ numbers from n ++ (from + n) ∷ []
numbers_more from zero = let same : from ≡ from + 0 = omega arith in ap (λ k. k ∷ []) same
numbers_more from (suc n) =
    let more : suc n + 1 ≡ suc (n + 1) = omega arith in let last : from + 1 + n ≡ from + suc n = omega arith in
    ap (numbers from) more ∙ ap (λ ns. from ∷ ns) (numbers_more (from + 1) n)
    ∙ ap (λ k. (from ∷ numbers (from + 1) n) ++ k ∷ []) last

pub ahead_more : (n : ℕ) → numbers 1 n ++ (n + 1) ∷ [] ≡ numbers 1 (n + 1)
ahead_more n =
    let last : n + 1 ≡ 1 + n = omega arith in
    ap (λ k. numbers 1 n ++ k ∷ []) last ∙ sym (numbers_more 1 n)

pub back_more : (n : ℕ) → numbers 0 n ++ n ∷ [] ≡ numbers 0 (n + 1)
back_more n =
    let last : n ≡ 0 + n = omega arith in
    ap (λ k. numbers 0 n ++ k ∷ []) last ∙ sym (numbers_more 0 n)

pub steps_more : (links : List ℕ) (node n : ℕ) → linked links (steps_on links node n) ≡ steps_on links node (n + 1)
steps_more links node n = let more : suc n ≡ n + 1 = omega arith in ap (steps_on links node) more

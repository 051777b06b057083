-- Letters, and how they are held.
use Rattle.std.proofs.Common.{◌≡◌, ℕ, ◌-◌, ◌≤◌, Bool, true, false, ◌&&◌, nat_le, List, [], ◌∷◌, ◌++◌, length, take, drop, replicate, refl, sym, ap, subst, ◌∙◌, arith, length-append}
use Rattle.std.specs.List.{list_all}
use Rattle.std.proofs.Math.Seq.{take-append_seam}
use Rattle.std.proofs.lemmas.Bool.Decides.{nat_tests}
use Rattle.std.proofs.lemmas.List.{drop-replicate, length-replicate}
use Rattle.run_lines.specs.Letters.{IsLetters, are_letters, is_small_letter, may_follow, padded}
use Rattle.run_lines.specs.Letters.Held.{HoldsLetters}

pub both_true : (a b : Bool) → (a && b) ≡ true → (a ≡ true) × (b ≡ true)
both_true true true e = (refl, refl)
both_true true false e = absurd (cc)
both_true false b e = absurd (cc)

-- letters are few
pub letters_short : (bytes : List ℕ) → IsLetters bytes → length bytes ≤ 32
unfolding are_letters
letters_short [] is = absurd (cc)
letters_short (first ∷ others) is =
    let parts =
    both_true (is_small_letter first && list_all may_follow others) (nat_le (length others) 31) is in
    let few : nat_le (length others) 31 ≡ true = parts.1 in
    grind (arith, nat_tests)

-- what was copied over the first of 32 zeros
pub held_fresh : (bytes copied : List ℕ) → IsLetters bytes → copied ≡ bytes
    → HoldsLetters (record { len = length bytes; bytes = copied ++ drop (length bytes) (replicate 32 0) })
held_fresh bytes copied is same =
    let few : length bytes ≤ 32 = letters_short bytes is in
    let whole : copied ++ drop (length bytes) (replicate 32 0) ≡ padded bytes =
    ap (λ c. c ++ drop (length bytes) (replicate 32 0)) same
    ∙ ap (λ zeros. bytes ++ zeros) (drop-replicate (length bytes) 32 0) in
    let front : take (length bytes) (copied ++ drop (length bytes) (replicate 32 0)) ≡ bytes =
    ap (take (length bytes)) whole ∙ take-append_seam bytes (replicate (32 - length bytes) 0) in
    record {
      within = few;
      letters = subst IsLetters (sym front) is;
      unused = whole ∙ ap padded (sym front);
      full = omega (
        arith,
        ap length whole,
        length-append bytes (replicate (32 - length bytes) 0),
        length-replicate
            {A = ℕ} (32 - length bytes) 0,
      );
    }

-- A line is taken off a text.
use Rattle.std.proofs.Common.{◌≡◌, ℕ, zero, suc, ◌+◌, ◌-◌, ◌<◌, ◌≤◌, List, [], ◌∷◌, ◌++◌, length, get_or, take, drop, Option, Some, None, sym, ap, ◌∙◌, arith, add-one, append_assoc, Fits, w64}
use Rattle.run_reader.specs.Buffer.{IsAtEnd, KeepsText, most_held}
use Rattle.run_reader.specs.Reader.{IsWhollyRead, TakesLine}

pub fits_64 : (at : ℕ) (bytes : List ℕ) → at < length bytes → length bytes ≤ most_held → Fits w64 (at + 1)
fits_64 at bytes within few = omega arith

cut_at : (bytes : List ℕ) (at : ℕ) → at < length bytes → get_or bytes at 0 ≡ 10 →
    bytes ≡ take at bytes ++ 10 ∷ drop (suc at) bytes
cut_at [] at within is = absurd (omega arith)
cut_at (x ∷ bytes) zero within is = ap (λ y. y ∷ bytes) is
cut_at (x ∷ bytes) (suc at) within is = ap (λ ys. x ∷ ys) (cut_at bytes at (omega arith) is)

pub takes_line : (at : ℕ) (held consumed bytes : List ℕ) (left left_after : Option (List ℕ)) → held ≡ consumed →
    at < length bytes →
    get_or bytes at 0 ≡ 10 → KeepsText consumed left bytes left_after →
    TakesLine held left (take (at + 1 - 1) bytes) (drop (at + 1) bytes) left_after
takes_line at held consumed bytes None left_after same within is keeps = tt
takes_line at held consumed bytes (Some left) None same within is keeps = keeps
takes_line at held consumed bytes (Some left) (Some left_after) same within is keeps =
    let place : at ≡ at + 1 - 1 = omega arith in
    let whole : bytes ≡ take (at + 1 - 1) bytes ++ 10 ∷ drop (at + 1) bytes =
    cut_at bytes at within is
    ∙ ap (λ k. take k bytes ++ 10 ∷ drop (suc at) bytes) place
    ∙ ap (λ k. take (at + 1 - 1) bytes ++ 10 ∷ drop k bytes) (sym (add-one at)) in
    ap (λ xs. xs ++ left) same
    ∙ sym keeps
    ∙ ap (λ xs. xs ++ left_after) whole
    ∙ append_assoc (take (at + 1 - 1) bytes) (10 ∷ drop (at + 1) bytes) left_after

pub wholly_read : (held consumed bytes : List ℕ) (left left_after : Option (List ℕ)) → held ≡ consumed →
    KeepsText consumed left bytes left_after → bytes ≡ [] → IsAtEnd left left_after → IsWhollyRead held left
wholly_read held consumed bytes None left_after same keeps empty end = tt
wholly_read held consumed bytes (Some left) None same keeps empty end = absurd keeps
wholly_read held consumed bytes (Some left) (Some left_after) same keeps empty end =
    let none : left_after ≡ [] = cc in
    ap (λ xs. xs ++ left) same ∙ sym keeps ∙ ap (λ xs. xs ++ left_after) empty ∙ none

-- Hexadecimal digits, two a byte.
use Rattle.std.proofs.Common.{◌≡◌, ℕ, ◌+◌, ◌*◌, ◌/◌, ◌%◌, ◌<◌, true, List, [], ◌∷◌, length, refl, ap, ◌∙◌, arith}
use Rattle.std.specs.List.{list_all}
use Rattle.std.proofs.lemmas.Bool.Decides.{nat_tests}
use Rattle.session_script.specs.Kinds.{is_hexadecimal, hexadecimal, decoded}
use Rattle.session_script.specs.Spelling.{digit_of, encoded}
use Rattle.session_script.proofs.HoldingLemmas.{both}

-- a digit is the one of its value
digit_of-hexadecimal : (digit : ℕ) → is_hexadecimal digit ≡ true → digit_of (hexadecimal digit) ≡ digit
digit_of-hexadecimal digit h = grind (arith, nat_tests)

pub hexadecimal-small : (digit : ℕ) → is_hexadecimal digit ≡ true → hexadecimal digit < 16
hexadecimal-small digit h = grind (arith, nat_tests)

high_half : (high low : ℕ) → low < 16 → (16 * high + low) / 16 ≡ high
high_half high low small = omega arith

low_half : (high low : ℕ) → low < 16 → (16 * high + low) % 16 ≡ low
low_half high low small = omega arith

-- the two digits of the byte that two digits spell
encoded_pair : (high low : ℕ) (digits : List ℕ) → is_hexadecimal high ≡ true → is_hexadecimal low ≡ true →
    encoded ((16 * hexadecimal high + hexadecimal low) ∷ digits) ≡ high ∷ low ∷ encoded digits
encoded_pair high low digits is_high is_low =
    let small = hexadecimal-small low is_low in
    ap (λ d. digit_of d ∷ digit_of ((16 * hexadecimal high + hexadecimal low) % 16) ∷ encoded digits)
    (high_half (hexadecimal high) (hexadecimal low) small)
    ∙ ap (λ d. digit_of (hexadecimal high) ∷ digit_of d ∷ encoded digits) (low_half (hexadecimal high) (hexadecimal low) small)
    ∙ ap (λ d. d ∷ digit_of (hexadecimal low) ∷ encoded digits) (digit_of-hexadecimal high is_high)
    ∙ ap (λ d. high ∷ d ∷ encoded digits) (digit_of-hexadecimal low is_low)

-- an even number of digits is the text of the bytes that they spell
pub encoded-decoded : (digits : List ℕ) → length digits % 2 ≡ 0 → list_all is_hexadecimal digits ≡ true →
    encoded (decoded digits) ≡ digits
encoded-decoded [] even all = refl
encoded-decoded (high ∷ []) even all = absurd (omega arith)
encoded-decoded (high ∷ low ∷ digits) even all =
    let first = both (is_hexadecimal high) (list_all is_hexadecimal (low ∷ digits)) all in
    let second = both (is_hexadecimal low) (list_all is_hexadecimal digits) first.1 in
    encoded_pair high low (decoded digits) first.0 second.0
    ∙ ap (λ ds. high ∷ low ∷ ds) (encoded-decoded digits (omega arith) second.1)

-- Numbers and bytes have words: the reverse of what those words spell.
use Rattle.std.proofs.Common.{◌≡◌, ℕ, suc, ◌+◌, ◌*◌, ◌/◌, ◌%◌, ◌^◌, ◌<◌, ◌≤◌, ◌⊎◌, inl, inr, Bool, true, false, not, ◌&&◌, ◌==◌, List, [], ◌∷◌, length, get_or, Ok, refl, ap, arith}
use Rattle.std.specs.Prelude.{nat_lt, nat_le, slice_index}
use Rattle.std.specs.List.{AllByRecursion, list_all}
use Rattle.std.specs.Fmt.{decimal}
use Rattle.std.proofs.lemmas.Bool.Decides.{nat_tests}
use Rattle.std.proofs.lemmas.Fmt.{decimal_digit, decimal_nonempty, digits_decimal, digits_value-decimal, first_decimal}
use Rattle.std.proofs.lemmas.List.Elements.{recursion_from_All}
use Rattle.session_script.specs.Kinds.{is_digit, is_hexadecimal, hexadecimal, is_number, is_data, decimal_from, number, data_digits, decoded}
use Rattle.session_script.specs.Spelling.{digit_of, encoded, data_text}
use Rattle.session_script.specs.Writable.{AreBytes}
use Rattle.session_script.proofs.NumeralsLemmas.{decimal_model}

is_some : (size : ℕ) → 0 < size → not (size == 0) ≡ true
is_some size some = grind (arith, nat_tests)

no_zero_leads : (first size : ℕ) → (size ≡ 1) ⊎ (48 < first) → (nat_lt 1 size && (first == 48)) ≡ false
no_zero_leads first size (inl one) = grind (arith, nat_tests)
no_zero_leads first size (inr more) = grind (arith, nat_tests)

is_small : (n most : ℕ) → n < most → nat_lt n most ≡ true
is_small n most lt = grind (arith, nat_tests)

zero_or_more : (n : ℕ) → n < 2 ^ 64 → (length (decimal n) ≡ 1) ⊎ (48 < get_or (decimal n) 0 0)
zero_or_more n small = by_test (nat_lt 0 n) refl
  where
    by_test : (more : Bool) → nat_lt 0 n ≡ more → (length (decimal n) ≡ 1) ⊎ (48 < get_or (decimal n) 0 0)
    by_test true test = inr (first_decimal n (grind (arith, nat_tests)) small)
    by_test false test = inl (ap length (decimal_digit n (grind (arith, nat_tests))))

-- the decimal text of a number is its numeral
pub decimal_is_numeral : (n : ℕ) → n < 2 ^ 64 → number (decimal n) ≡ Ok n
unfolding number is_number
decimal_is_numeral n small =
    let some : not (length (decimal n) == 0) ≡ true = is_some (length (decimal n)) (decimal_nonempty n small) in
    let digits : list_all is_digit (decimal n) ≡ true = digits_decimal decimal_model n small in
    let leads : (nat_lt 1 (length (decimal n)) && (slice_index (decimal n) 0 == 48)) ≡ false =
    no_zero_leads (slice_index (decimal n) 0) (length (decimal n)) (zero_or_more n small) in
    let value : decimal_from 0 (decimal n) ≡ n = digits_value-decimal decimal_model n small in
    rw (some, digits, leads, value, is_small n (2 ^ 64) small) refl

length-encoded : (bytes : List ℕ) → length (encoded bytes) ≡ 2 * length bytes
length-encoded [] = refl
length-encoded (b ∷ bytes) = omega (arith, length-encoded bytes)

hexadecimal-digit_of : (d : ℕ) → d < 16 → hexadecimal (digit_of d) ≡ d
hexadecimal-digit_of d lt = grind (arith, nat_tests)

digit_of-is_hexadecimal : (d : ℕ) → d < 16 → is_hexadecimal (digit_of d) ≡ true
digit_of-is_hexadecimal d lt = grind (arith, nat_tests)

byte_of_halves : (b high low : ℕ) → high ≡ b / 16 → low ≡ b % 16 → 16 * high + low ≡ b
byte_of_halves b high low e f = omega arith

encoded_digits : (bytes : List ℕ) → AllByRecursion (λ b. b < 2 ^ 8) bytes →
    list_all is_hexadecimal (encoded bytes) ≡ true
encoded_digits [] are = refl
encoded_digits (b ∷ bytes) are =
    rw (digit_of-is_hexadecimal (b / 16) (omega (arith, are.0)), digit_of-is_hexadecimal (b % 16) (omega arith))
    (encoded_digits bytes are.1)

decoded_encoded : (bytes : List ℕ) → AllByRecursion (λ b. b < 2 ^ 8) bytes → decoded (encoded bytes) ≡ bytes
decoded_encoded [] are = refl
decoded_encoded (b ∷ bytes) are =
    rw (
      hexadecimal-digit_of (b / 16) (omega (arith, are.0)),
      hexadecimal-digit_of (b % 16) (omega arith),
      decoded_encoded bytes are.1,
      byte_of_halves b (b / 16) (b % 16) refl refl,
    ) refl

-- bytes are those of the digits that they are written as
pub decoded-encoded : (bytes : List ℕ) → AreBytes bytes → decoded (encoded bytes) ≡ bytes
decoded-encoded bytes are = decoded_encoded bytes (recursion_from_All (λ b. b < 2 ^ 8) bytes are)

three_long : (size bytes : ℕ) → size ≡ 2 * bytes → 1 ≤ bytes → (nat_le 3 (suc size) && (suc size % 2 == 1)) ≡ true
three_long size bytes e some = grind (arith, nat_tests)

fits : (size bytes : ℕ) → size ≡ 2 * bytes → nat_le (suc size / 2) bytes ≡ true
fits size bytes e = grind (arith, nat_tests)

-- the text of bytes is their DATA
pub data_text_is_data : (bytes : List ℕ) → 1 ≤ length bytes → AreBytes bytes →
    data_digits (length bytes) (data_text bytes) ≡ Ok (encoded bytes)
unfolding data_digits is_data
data_text_is_data bytes some are =
    let long : (nat_le 3 (length (data_text bytes)) && (length (data_text bytes) % 2 == 1)) ≡ true =
    three_long (length (encoded bytes)) (length bytes) (length-encoded bytes) some in
    let digits : list_all is_hexadecimal (encoded bytes) ≡ true =
    encoded_digits bytes (recursion_from_All (λ b. b < 2 ^ 8) bytes are) in
    let short : nat_le (length (data_text bytes) / 2) (length bytes) ≡ true =
    fits (length (encoded bytes)) (length bytes) (length-encoded bytes) in
    rw (long, digits, short) refl

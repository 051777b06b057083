-- The number that a text spells.
use Rattle.std.proofs.Common.{◌≡◌, ◌≢◌, ℕ, zero, suc, ◌<◌, ◌^◌, Bool, true, false, ◌&&◌, cond, nat_lt, List, [], ◌∷◌, length, get_or, Option, Some, None, Result, Ok, Err, refl, sym, ap, subst, ◌∙◌, arith}
use Rattle.std.specs.Fmt.{decimal}
use Rattle.std.specs.Str.{IsUtf8, bytes_eq}
use Rattle.std.specs.Str.Parse.{AllDigits, IsNumeral, digits_value, ParsesUnsigned, without_leading_plus}
use Rattle.std.proofs.lemmas.Bool.Decides.{Decides-and, Decides-ltb, nat_tests}
use Rattle.std.proofs.lemmas.Fmt.{decimal_is_IsNumeral, decimal_digit, decimal-digits_value, first_decimal, parse-decimal, IsAscii-decimal}
use Rattle.std.proofs.lemmas.Slice.Eq.{bytes_eq-Decides}
use Rattle.std.proofs.lemmas.Str.{IsUtf8-from_ascii}
use Rattle.std.proofs.lemmas.Str.Parse.{IsNumeralModel, numerals_by_value, tells_digits, without_leading_plus_none}
use Rattle.run_lines.specs.Number.{Is64, is_plain, number_in}

digits_model : IsNumeralModel (AllDigits 10) (digits_value 10)
digits_model = numerals_by_value (AllDigits 10) tells_digits

-- what the number of a text is
pub record IsNumberOf (bytes : List ℕ) (n : ℕ) : Type 0 where
  pub text : bytes ≡ decimal n
  pub below : Is64 n

chosen : (test : Bool) (value n : ℕ) → cond test (Some value) None ≡ Some n → (test ≡ true) × (value ≡ n)
chosen true value n e = (refl, cc)
chosen false value n e = absurd (cc)

pub number_is : (bytes : List ℕ) (n : ℕ) → number_in bytes ≡ Some n → IsNumberOf bytes n
unfolding number_in
number_is bytes n e =
    let value : ℕ = digits_value 10 bytes in
    let parts = chosen (bytes_eq bytes (decimal value) && nat_lt value (2 ^ 64)) value n e in
    let facts =
    (Decides-and (bytes_eq bytes (decimal value)) (nat_lt value (2 ^ 64)) (bytes_eq-Decides bytes (decimal value))
    (Decides-ltb value (2 ^ 64))).0 parts.0 in
    record { text = facts.0 ∙ ap decimal parts.1; below = omega (arith, facts.1, parts.1) }

pub number_spelled : (bytes : List ℕ) (n : ℕ) → Is64 n → bytes ≡ decimal n → number_in bytes ≡ Some n
unfolding number_in
number_spelled bytes n fits text =
    let value : ℕ = digits_value 10 bytes in
    let same : value ≡ n = ap (digits_value 10) text ∙ (decimal_is_IsNumeral n fits).1 in
    let passed : (bytes_eq bytes (decimal value) && nat_lt value (2 ^ 64)) ≡ true =
    (Decides-and (bytes_eq bytes (decimal value)) (nat_lt value (2 ^ 64)) (bytes_eq-Decides bytes (decimal value))
    (Decides-ltb value (2 ^ 64))).1 (text ∙ ap decimal (sym same), omega (arith, same, fits)) in
    ap (λ test. cond test (Some value) None) passed ∙ ap Some same

-- where a number is spelled, there is one
none_or_some : (bytes : List ℕ) (found : Option ℕ) → found ≡ number_in bytes →
    ((n : ℕ) → Is64 n → bytes ≢ decimal n) → number_in bytes ≡ None
none_or_some bytes None e never = sym e
none_or_some bytes (Some n) e never =
    let is : IsNumberOf bytes n = number_is bytes n (sym e) in absurd (never n is.below is.text)

pub number_none : (bytes : List ℕ) → ((n : ℕ) → Is64 n → bytes ≢ decimal n) → number_in bytes ≡ None
number_none bytes never = none_or_some bytes (number_in bytes) refl never

-- the text of a number is plain
digits_are_plain : (ds : List ℕ) → IsNumeral 10 ds → (get_or ds 0 0 ≡ 48 → length ds ≡ 1) → is_plain ds ≡ true
digits_are_plain [] is alone = absurd (omega (arith, is.0))
digits_are_plain (d ∷ []) is alone = grind (arith, nat_tests)
digits_are_plain (d ∷ e ∷ ds) is alone = grind (arith, nat_tests)

zero_alone : (n : ℕ) → Is64 n → get_or (decimal n) 0 0 ≡ 48 → length (decimal n) ≡ 1
zero_alone zero fits first = ap length (decimal_digit 0 (omega arith))
zero_alone (suc n) fits first = absurd (omega (arith, first, first_decimal (suc n) (omega arith) fits))

decimal_is_plain : (n : ℕ) → Is64 n → is_plain (decimal n) ≡ true
decimal_is_plain n fits = digits_are_plain (decimal n) (decimal_is_IsNumeral n fits).0 (zero_alone n fits)

pub not_plain : (bytes : List ℕ) → is_plain bytes ≡ false → number_in bytes ≡ None
not_plain bytes bad =
    number_none bytes
    (λ n fits text. let good : is_plain bytes ≡ true = ap is_plain text ∙ decimal_is_plain n fits in absurd (cc))

pub not_text : (bytes : List ℕ) → (IsUtf8 bytes → ⊥) → number_in bytes ≡ None
not_text bytes bad =
    number_none bytes
    (λ n fits text. absurd (bad (subst IsUtf8 (sym text) (IsUtf8-from_ascii (decimal n) (IsAscii-decimal n fits)))))

-- what parsing gives of a plain text
first_of_plain : (bytes : List ℕ) → is_plain bytes ≡ true →
    (get_or bytes 0 0 ≢ 43) × (get_or bytes 0 0 ≡ 48 → length bytes ≡ 1)
first_of_plain [] plain = absurd (cc)
first_of_plain (d ∷ []) plain = (grind (arith, nat_tests), λ e. omega arith)
first_of_plain (d ∷ e ∷ ds) plain = (grind (arith, nat_tests), grind (arith, nat_tests))

pub parsed : {E : Type 0} (bytes : List ℕ) (r : Result ℕ E) (n : ℕ) → is_plain bytes ≡ true →
    ParsesUnsigned 64 10 bytes r → r ≡ Ok n → number_in bytes ≡ Some n
parsed bytes (Ok value) n plain parses e =
    let first = first_of_plain bytes plain in
    let same : without_leading_plus bytes ≡ bytes = without_leading_plus_none bytes first.0 in
    let numeral : IsNumeral 10 bytes = subst (IsNumeral 10) same parses.0.0 in
    let fits : digits_value 10 bytes < 2 ^ 64 = subst (λ ds. digits_value 10 ds < 2 ^ 64) same parses.0.1 in
    let is : value ≡ digits_value 10 bytes = parses.1 ∙ ap (digits_value 10) same in
    let text : decimal (digits_value 10 bytes) ≡ bytes =
    decimal-digits_value digits_model bytes numeral.1 numeral.0 first.1 fits in
    let equal : value ≡ n = cc in
    number_spelled bytes n (omega (arith, fits, is, equal)) (sym text ∙ ap decimal (sym is ∙ equal))
parsed bytes (Err e) n plain parses is = absurd (cc)

pub not_parsed : {E : Type 0} (bytes : List ℕ) (r : Result ℕ E) (e : E) → ParsesUnsigned 64 10 bytes r → r ≡ Err e →
    number_in bytes ≡ None
not_parsed bytes r e parses is =
    number_none bytes
    (λ n fits text. let ok : r ≡ Ok n = parse-decimal 64 n bytes r fits fits text parses in absurd (cc))

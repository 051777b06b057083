-- A numeral is the decimal text of its value, and DATA the text of its bytes.
use Rattle.std.proofs.Common.{◌≡◌, ℕ, ◌/◌, ◌%◌, ◌^◌, ◌<◌, ◌≤◌, Bool, true, false, not, cond, ◌&&◌, ◌==◌, List, [], ◌∷◌, length, drop, get_or, Result, Ok, Err, refl, sym, ap, subst, ◌∙◌, arith, rules}
use Rattle.std.specs.Prelude.{nat_lt, nat_le, slice_index}
use Rattle.std.specs.List.{list_all}
use Rattle.std.specs.Fmt.{decimal}
use Rattle.std.proofs.lemmas.Bool.Decides.{Decides-eqb, Decides-ltb, nat_tests}
use Rattle.std.proofs.lemmas.Fmt.{decimal-digits_value}
use Rattle.std.proofs.lemmas.Str.Parse.{IsNumeralModel, numerals_by_fold}
use Rattle.session_script.specs.declared.refusal.Rule.{Rule}
use Rattle.session_script.specs.Tokens.{is_printable}
use Rattle.session_script.specs.Kinds.{is_digit, is_hexadecimal, is_number, is_data, decimal_from, number, data_digits, decoded}
use Rattle.session_script.specs.Spelling.{data_text}
use Rattle.session_script.proofs.HoldingLemmas.{both, not_false, data_long, decoded_size}
use Rattle.session_script.proofs.TokenizingLemmas.{IsToken}
use Rattle.session_script.proofs.DataLemmas.{encoded-decoded}

-- what is given where one test refuses
not_barred : {A : Type 0} (test : Bool) (violated : Rule) (r : Result A Rule) (value : A) →
    cond test (Err violated) r ≡ Ok value → (test ≡ false) × (r ≡ Ok value)
not_barred true violated r value e = absurd (cc)
not_barred false violated r value e = (refl, e)

-- what is given where one test is to be passed
guarded : {A : Type 0} (test : Bool) (violated : Rule) (given value : A) →
    cond test (Ok given) (Err violated) ≡ Ok value → (test ≡ true) × (given ≡ value)
guarded true violated given value e = (refl, cc)
guarded false violated given value e = absurd (cc)

-- what passes a test passes a weaker one
weaker_test : (p q : ℕ → Bool) (xs : List ℕ) → ((x : ℕ) → p x ≡ true → q x ≡ true) → list_all p xs ≡ true →
    list_all q xs ≡ true
weaker_test p q [] less all = refl
weaker_test p q (x ∷ xs) less all =
    let parts = both (p x) (list_all p xs) all in
    rw (less x parts.0, weaker_test p q xs less parts.1) refl

digit_is_printable : (b : ℕ) → is_digit b ≡ true → is_printable b ≡ true
unfolding is_printable
digit_is_printable b h = grind (arith, nat_tests)

hexadecimal_is_printable : (b : ℕ) → is_hexadecimal b ≡ true → is_printable b ≡ true
unfolding is_printable
hexadecimal_is_printable b h = grind (arith, nat_tests)

-- what a numeral is
record IsNumeralOf (w : List ℕ) (n : ℕ) : Type 0 where
  some : 0 < length w
  digits : list_all is_digit w ≡ true
  no_zero : get_or w 0 0 ≡ 48 → length w ≡ 1
  small : decimal_from 0 w < 2 ^ 64
  value : decimal_from 0 w ≡ n

is_some : (bytes : List ℕ) → not (length bytes == 0) ≡ true → 0 < length bytes
is_some bytes h = grind (arith, nat_tests)

alone : (first size : ℕ) → 0 < size → (nat_lt 1 size && (first == 48)) ≡ false → first ≡ 48 → size ≡ 1
alone first size some h e = grind (arith, nat_tests)

numeral_of : (w : List ℕ) (n : ℕ) → number w ≡ Ok n → IsNumeralOf w n
unfolding number is_number
numeral_of w n e =
    let kind = not_barred (not (is_number w)) _ _ n e in
    let lead = not_barred (nat_lt 1 (length w) && (slice_index w 0 == 48)) _ _ n kind.1 in
    let fits = guarded (nat_lt (decimal_from 0 w) (2 ^ 64)) _ (decimal_from 0 w) n lead.1 in
    let is = both (not (length w == 0)) (list_all is_digit w) (not_false (is_number w) kind.0) in
    let some = is_some w is.0 in
    record {
      some = some;
      digits = is.1;
      no_zero = alone (get_or w 0 0) (length w) some lead.0;
      small = (Decides-ltb (decimal_from 0 w) (2 ^ 64)).0 fits.0;
      value = fits.1;
    }

-- digits and their value are those that std reads
pub decimal_model : IsNumeralModel (λ ds. list_all is_digit ds ≡ true) (decimal_from 0)
decimal_model = numerals_by_fold _ (search rules) decimal_from (search rules)

-- a numeral without a leading zero is the decimal text of its value
pub numeral_is_decimal : (w : List ℕ) (n : ℕ) → number w ≡ Ok n → w ≡ decimal n
numeral_is_decimal w n e =
    let is = numeral_of w n e in
    sym (decimal-digits_value decimal_model w is.digits is.some is.no_zero is.small) ∙ ap decimal is.value

-- a numeral is a token
pub numeral_is_token : (w : List ℕ) (n : ℕ) → number w ≡ Ok n → IsToken w
numeral_is_token w n e =
    let is = numeral_of w n e in
    (omega (arith, is.some), weaker_test is_digit is_printable w digit_is_printable is.digits)

-- what DATA is
record IsDataOf (w digits : List ℕ) : Type 0 where
  text : w ≡ 120 ∷ digits
  even : length digits % 2 ≡ 0
  all : list_all is_hexadecimal digits ≡ true

is_x : (w : List ℕ) → 3 ≤ length w → get_or w 0 0 ≡ 120 → w ≡ 120 ∷ drop 1 w
is_x [] long e = absurd (omega arith)
is_x (b ∷ w) long e = ap (λ x. x ∷ w) e

data_of : (w : List ℕ) → is_data w ≡ true → IsDataOf w (drop 1 w)
unfolding is_data
data_of w h =
    let digits = both _ (list_all is_hexadecimal (drop 1 w)) h in
    let first = both _ (slice_index w 0 == 120) digits.0 in
    let odd = (Decides-eqb (length w % 2) 1).0 (both _ (length w % 2 == 1) first.0).1 in
    let text = is_x w (data_long w h) ((Decides-eqb (get_or w 0 0) 120).0 first.1) in
    record { text = text; even = omega (arith, ap length text); all = digits.1 }

-- what gives digits is DATA, and those are all of it but the `x`
data_parts : (most : ℕ) (w digits : List ℕ) → data_digits most w ≡ Ok digits → (is_data w ≡ true) × (drop 1 w ≡ digits)
unfolding data_digits
data_parts most w digits e =
    let kind = not_barred (not (is_data w)) _ _ digits e in
    (not_false (is_data w) kind.0, (guarded (nat_le (length w / 2) most) _ (drop 1 w) digits kind.1).1)

-- the digits of DATA are an even number of hexadecimal ones
digits_of : (most : ℕ) (w digits : List ℕ) → data_digits most w ≡ Ok digits → IsDataOf w digits
digits_of most w digits e =
    let parts = data_parts most w digits e in
    subst (IsDataOf w) parts.1 (data_of w parts.0)

pub digits_are_hexadecimal : (most : ℕ) (w digits : List ℕ) → data_digits most w ≡ Ok digits →
    list_all is_hexadecimal digits ≡ true
digits_are_hexadecimal most w digits e = (digits_of most w digits e).all

-- DATA is the text of the bytes that it spells
pub data_is_text : (most : ℕ) (w digits : List ℕ) → data_digits most w ≡ Ok digits → w ≡ data_text (decoded digits)
data_is_text most w digits e =
    let is = digits_of most w digits e in
    is.text ∙ ap (λ ds. 120 ∷ ds) (sym (encoded-decoded digits is.even is.all))

x_begins_token : (digits : List ℕ) → list_all is_printable digits ≡ true → IsToken (120 ∷ digits)
unfolding is_printable
x_begins_token digits all = (omega arith, all)

-- DATA is a token
pub data_is_token : (most : ℕ) (w digits : List ℕ) → data_digits most w ≡ Ok digits → IsToken w
data_is_token most w digits e =
    let is = digits_of most w digits e in
    rw is.text (x_begins_token digits (weaker_test is_hexadecimal is_printable digits hexadecimal_is_printable is.all))

short_enough : (a b : ℕ) → a ≤ b → nat_le a b ≡ true
short_enough a b h = grind (arith, nat_tests)

-- DATA is read where it is short enough, whatever it was that was allowed
pub data_reads : (most other : ℕ) (w digits : List ℕ) → data_digits most w ≡ Ok digits →
    length (decoded digits) ≤ other → data_digits other w ≡ Ok digits
unfolding data_digits
data_reads most other w digits e fits =
    let parts = data_parts most w digits e in
    let is = digits_of most w digits e in
    let size = decoded_size digits in
    let half : length w / 2 ≤ other = omega (arith, ap length is.text, is.even, size.1) in
    rw (parts.0, short_enough (length w / 2) other half) (ap (λ ds. Ok ds) parts.1)

-- Numbers, words and data that are spelled are read, where they are within the limits.
use Rattle.std.proofs.Common.{◌≡◌, ℕ, ◌<◌, ◌≤◌, ◌⊎◌, Bool, true, false, List, ◌∷◌, length, Option, Some, None, Ok, refl, sym, ap, subst, ◌∙◌, arith}
use Rattle.std.specs.Prelude.{nat_lt, nat_le, nat_eq, IfSome, ◌||◌}
use Rattle.std.specs.Str.{bytes_eq}
use Rattle.std.proofs.lemmas.Slice.Eq.{bytes_eq-Decides}
use Rattle.std.proofs.lemmas.Bool.Decides.{nat_tests}
use lib.Chars.{codes}
use Rattle.session_script.specs.Kinds.{is_number, number, exactly, another_word, within, known, chosen, version, data_digits, decoded}
use Rattle.session_script.specs.Productions.{one, word, another, bounded, declared_number, optional, types, bytes}
use Rattle.session_script.specs.Text.{Words, IsWord, IsN, IsDashOrN, IsDataText}
use Rattle.session_script.proofs.SpelledLemmas.{is_text}
use Rattle.session_script.proofs.AcceptingLemmas.{Accepts, weaker_accepts, one_accepts}
use Rattle.session_script.proofs.NumeralsLemmas.{data_reads}
use Rattle.session_script.proofs.ReadingAsLemmas.{ReadsAs, by_accepts, accepts_by, tested_accepts, then_reads_as, done_reads_as}

is_false : (test : Bool) → (test ≡ true → ⊥) → test ≡ false
is_false true never = absurd (never refl)
is_false false never = refl

pub same_text : (text : List ℕ) → bytes_eq text text ≡ true
same_text text = (bytes_eq-Decides text text).1 refl

exactly_itself : (text : List ℕ) → exactly text text ≡ Ok tt
unfolding exactly
exactly_itself text = rw (same_text text) refl

pub word_accepts : (text : List ℕ) → Accepts (λ u. IsWord text) (word text)
unfolding word
word_accepts text = tested_accepts (exactly text) (λ u. IsWord text) (λ u ws rest is. (text, exactly_itself text, is))

another_word_itself : (text : List ℕ) → another_word text false text ≡ Ok tt
unfolding another_word
another_word_itself text = rw (exactly_itself text) refl

pub another_accepts : (text : List ℕ) → Accepts (λ u. IsWord text) (another text false)
unfolding another
another_accepts text =
    tested_accepts (another_word text false) (λ u. IsWord text) (λ u ws rest is. (text, another_word_itself text, is))

is_within : (least most n : ℕ) (w : List ℕ) → number w ≡ Ok n → least ≤ n → n ≤ most → within least most w ≡ Ok n
unfolding within
is_within least most n w is above below =
    let above_test : nat_le least n ≡ true = grind (arith, nat_tests) in
    let below_test : nat_le n most ≡ true = grind (arith, nat_tests) in
    rw (is, above_test, below_test) refl

pub bounded_accepts : (least most : ℕ) →
    Accepts (λ n ws rest. IsN n ws rest × (least ≤ n) × (n ≤ most)) (bounded least most)
unfolding bounded
bounded_accepts least most =
    tested_accepts (within least most) (λ n ws rest. IsN n ws rest × (least ≤ n) × (n ≤ most))
    (λ n ws rest p. (p.0.0, is_within least most n p.0.0 p.0.1 p.1 p.2, p.0.2))

pub types_accepts : Accepts (λ n ws rest. IsN n ws rest × (n ≤ 7)) types
unfolding types
types_accepts =
    weaker_accepts (λ n ws rest. IsN n ws rest × (0 ≤ n) × (n ≤ 7)) (λ n ws rest. IsN n ws rest × (n ≤ 7))
    (λ n ws rest p. (p.0, omega arith, p.1)) (bounded_accepts 0 7)

is_known : (count n : ℕ) (w : List ℕ) → number w ≡ Ok n → n < count → known count w ≡ Ok n
unfolding known
is_known count n w is below =
    let below_test : nat_lt n count ≡ true = grind (arith, nat_tests) in
    rw (is, below_test) refl

pub declared_accepts : (count : ℕ) → Accepts (λ n ws rest. IsN n ws rest × (n < count)) (declared_number count)
unfolding declared_number
declared_accepts count =
    tested_accepts (known count) (λ n ws rest. IsN n ws rest × (n < count))
    (λ n ws rest p. (p.0.0, is_known count n p.0.0 p.0.1 p.1, p.0.2))

dash_is_chosen : (count : ℕ) → chosen count (codes "-") ≡ Ok None
unfolding chosen
dash_is_chosen count = refl

dash_is_no_number : (n : ℕ) → number (codes "-") ≡ Ok n → ⊥
unfolding number is_number
dash_is_no_number n is = cc

is_no_dash : (n : ℕ) (w : List ℕ) → number w ≡ Ok n → bytes_eq w (codes "-") ≡ false
is_no_dash n w is =
    is_false (bytes_eq w (codes "-")) (λ dash. dash_is_no_number n (sym (ap number (is_text w (codes "-") dash)) ∙ is))

is_chosen : (count n : ℕ) (w : List ℕ) → number w ≡ Ok n → n < count → chosen count w ≡ Ok (Some n)
unfolding chosen
is_chosen count n w is below = rw (is_no_dash n w is, is_known count n w is below) refl

option_is_read : (count : ℕ) (o : Option ℕ) (ws rest : Words) → IsDashOrN o ws rest × IfSome o (λ n. n < count) →
    (w : List ℕ) × (chosen count w ≡ Ok o) × (ws ≡ w ∷ rest)
option_is_read count None ws rest p = (codes "-", dash_is_chosen count, p.0)
option_is_read count (Some n) ws rest p = (p.0.0, is_chosen count n p.0.0 p.0.1 p.1, p.0.2)

pub optional_accepts : (count : ℕ) →
    Accepts (λ o ws rest. IsDashOrN o ws rest × IfSome o (λ n. n < count)) (optional count)
unfolding optional
optional_accepts count =
    tested_accepts (chosen count) (λ o ws rest. IsDashOrN o ws rest × IfSome o (λ n. n < count)) (option_is_read count)

-- the number of a version
is_version : (n : ℕ) (w : List ℕ) → number w ≡ Ok n → (n ≡ 1) ⊎ (n ≡ 2) → version w ≡ Ok n
unfolding version
is_version n w is one_or_two =
    let test : (nat_eq n 1 || nat_eq n 2) ≡ true = grind (arith, nat_tests) in
    rw (is, test) refl

pub version_accepts : Accepts (λ n ws rest. IsN n ws rest × ((n ≡ 1) ⊎ (n ≡ 2))) (one version)
version_accepts =
    tested_accepts version (λ n ws rest. IsN n ws rest × ((n ≡ 1) ⊎ (n ≡ 2)))
    (λ n ws rest p. (p.0.0, is_version n p.0.0 p.0.1 p.1, p.0.2))

data_is_read : (most : ℕ) (bs : List ℕ) (ws rest : Words) → IsDataText bs ws rest → length bs ≤ most →
    ReadsAs (bytes most) bs ws rest
unfolding bytes
data_is_read most bs ws rest p fits =
    let short : length (decoded p.2) ≤ most = subst (λ (given : List ℕ). length given ≤ most) p.4 fits in
    let passes : data_digits most p.0 ≡ Ok p.2 = data_reads p.1 most p.0 p.2 p.3 short in
    subst (λ (given : List ℕ). ReadsAs (bytes most) given ws rest) (sym p.4) (then_reads_as _
    (by_accepts (one_accepts (data_digits most)) p.2 ws rest (p.0, passes, p.5)) (done_reads_as (decoded p.2) rest))

-- DATA, whatever it was that was allowed
pub bytes_accepts : (most : ℕ) → Accepts (λ bs ws rest. IsDataText bs ws rest × (length bs ≤ most)) (bytes most)
unfolding bytes
bytes_accepts most =
    accepts_by (λ bs ws rest. IsDataText bs ws rest × (length bs ≤ most)) (λ bs ws rest p. data_is_read most bs ws rest p.0 p.1)

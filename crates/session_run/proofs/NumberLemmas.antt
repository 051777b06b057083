-- Words that are numbers in decimal.
use Rattle.std.proofs.Common.{◌≡◌, ◌∙◌, ◌↔◌, ◌<◌, ◌^◌, ℕ, List, Some, None, Result, Ok, Err, ap, arith, sym}
use Rattle.std.specs.Fmt.{decimal}
use Rattle.std.specs.Str.Parse.{ParsesUnsigned}
use Rattle.std.proofs.lemmas.Fmt.{parse-decimal}

-- a word that is the decimal text of a number is read as that number
read : {E : Type 0} (word : List ℕ) (r : Result ℕ E) (n : ℕ) → ParsesUnsigned 32 10 word r → n < 2 ^ 32 →
    word ≡ decimal n → r ≡ Ok n
read word r n parses fits text = parse-decimal 32 n word r fits (omega (arith, fits)) text parses

-- what isn't read is the text of no number
pub unread : {E : Type 0} (word : List ℕ) (r : Result ℕ E) (e : E) → ParsesUnsigned 32 10 word r → r ≡ Err e → (n : ℕ)
    → n < 2 ^ 32 → (None ≡ Some n) ↔ (word ≡ decimal n)
unread word r e parses is n fits =
    (λ none. cc none, λ text. let ok : r ≡ Ok n = read word r n parses fits text in absurd (cc (ok, is)))

-- what is read and is written so is the text of that number alone
pub read_back : {E : Type 0} (word : List ℕ) (r : Result ℕ E) (m : ℕ) → ParsesUnsigned 32 10 word r → r ≡ Ok m
    → decimal m ≡ word → (n : ℕ) → n < 2 ^ 32 → (Some m ≡ Some n) ↔ (word ≡ decimal n)
read_back word r m parses is same n fits = (
  λ some. let equal : m ≡ n = cc some in sym same ∙ ap decimal equal,
  λ text. let ok : r ≡ Ok n = read word r n parses
      fits text in cc (ok, is),
)

-- what is read and is written otherwise is the text of no number
pub read_otherwise : {E : Type 0} (word : List ℕ) (r : Result ℕ E) (m : ℕ) → ParsesUnsigned 32 10 word r → r ≡ Ok m
    → (decimal m ≡ word → ⊥) → (n : ℕ) → n < 2 ^ 32 → (None ≡ Some n) ↔ (word ≡ decimal n)
read_otherwise word r m parses is other n fits = (
  λ none. cc none,
  λ text. let ok : r ≡ Ok n = read word r n parses fits text in let equal : m ≡ n = cc (ok, is) in
      absurd (other (ap decimal equal ∙ sym text)),
)

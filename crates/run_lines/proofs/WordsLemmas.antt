-- A line is cut at its spaces.
use Rattle.std.proofs.Common.{◌≡◌, ◌≢◌, ℕ, zero, suc, ◌<◌, Bool, true, false, ◌==◌, cond, List, [], ◌∷◌, length, take, drop, get_or, Result, Ok, Err, refl, ap, ◌∙◌, arith, if◌then◌else◌}
use Rattle.std.specs.List.{onto_first}
use Rattle.std.proofs.lemmas.List.Splits.{join_with_byte-slice_split}
use Rattle.run_lines.specs.declared.bad_line.BadLine.{BadLine}
use Rattle.run_lines.specs.declared.bad_line.Wants.TheVariants as wants
use Rattle.run_lines.specs.BadLine.{wrong}
use Rattle.run_lines.specs.Name.{is_text}
use Rattle.run_lines.specs.Reading.{Rest, end_at, text_at}
use Rattle.std.proofs.lemmas.Bool.Decides.{nat_tests}
use Rattle.run_lines.specs.Words.{words_of}

same_byte : (a b : ℕ) → a ≡ b → (a == b) ≡ true
same_byte a b e = grind (arith, nat_tests)

other_byte : (a b : ℕ) → a ≢ b → (a == b) ≡ false
other_byte a b e = grind (arith, nat_tests)

-- the first word is what stands before the first space
pub words_at : (bytes : List ℕ) (i : ℕ) → i < length bytes → get_or bytes i 0 ≡ 32 →
    ((k : ℕ) → k < i → get_or bytes k 0 ≢ 32) → words_of bytes ≡ take i bytes ∷ words_of (drop (suc i) bytes)
words_at [] i within is before = absurd (omega arith)
words_at (byte ∷ bytes) zero within is before = rw (same_byte byte 32 is) refl
words_at (byte ∷ bytes) (suc i) within is before =
    rw (
      other_byte byte 32 (before 0 (omega arith)),
      words_at bytes i (omega arith) is (λ k below. before (suc k) (omega arith)),
    ) refl

-- bytes without a space are one word
pub words_nowhere : (bytes : List ℕ) → ((k : ℕ) → k < length bytes → get_or bytes k 0 ≢ 32) →
    words_of bytes ≡ bytes ∷ []
words_nowhere [] none = refl
words_nowhere (byte ∷ bytes) none =
    rw (
      other_byte byte 32 (none 0 (omega arith)),
      words_nowhere bytes (λ k below. none (suc k) (omega arith)),
    ) refl

-- something stands on a line that goes on
end_at_word : (at : ℕ) (test : Bool) (byte : ℕ) (words : Rest) →
    end_at at (cond test ([] ∷ words) (onto_first byte words)) ≡ Err (wrong at wants.Nothing)
end_at_word at true byte words = refl
end_at_word at false byte [] = refl
end_at_word at false byte (word ∷ words) = refl

pub goes_on : (at : ℕ) (bytes : List ℕ) → end_at at (words_of bytes) ≡ Err (wrong at wants.Nothing)
goes_on at [] = refl
goes_on at (byte ∷ bytes) = end_at_word at (byte == 32) byte (words_of bytes)

-- a text to the end of the line
pub no_text : (at : ℕ) → text_at at [] ≡ Err (wrong at wants.Text)
unfolding is_text
no_text at = refl

abbrev judged_text : ℕ → List ℕ → Bool → Result (List ℕ) BadLine
judged_text at text test = if test then Ok text else Err (wrong at wants.Text)

pub some_text : (at : ℕ) (bytes : List ℕ) (test : Bool) → is_text bytes ≡ test →
    text_at at (words_of bytes) ≡ (if test then Ok bytes else Err (wrong at wants.Text))
some_text at bytes test is =
    ap (λ text. judged_text at text (is_text text)) (join_with_byte-slice_split 32 bytes) ∙ ap (judged_text at bytes) is

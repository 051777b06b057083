-- Where the line stands that parts an input.
use Rattle.std.proofs.Common.{◌≡◌, ◌<◌, ◌≤◌, ◌+◌, ◌-◌, ℕ, List, [], ◌∷◌, ◌++◌, length, take, drop, get_or, arith, ap, sym, ◌∙◌, ◌⊎◌, inl, inr, length-append}
use Rattle.std.specs.Prelude.{◌↔◌}
use Rattle.std.proofs.Math.Seq.{drop-append_seam, get_or-append_seam, take-append_seam}
use Rattle.std.proofs.lemmas.Bool.{cases_lt}
use Rattle.std.proofs.lemmas.List.{drop-drop, get_or-take, length-drop, length-take, length-take-le, take-append-drop, take_more}
use Rattle.history_book.specs.Trace.{line_end}
use Rattle.trace_check.specs.Parting.{AreLines, HasNoParting, IsPartedInput, InputParts, LineStandsAt, parting_line}

-- a place where it stands parts the input
parted_at : (input : List ℕ) (at : ℕ) → LineStandsAt input at →
    IsPartedInput input (take at input) (drop (at + 3) input)
parted_at input at stands =
    record {
      text =
          sym (take-append-drop at input)
          ∙ ap (λ xs. take at input ++ xs)
          (sym (take-append-drop 3 (drop at input)) ∙ ap (λ xs. xs ++ drop 3 (drop at input)) stands.line
          ∙ ap (λ xs. parting_line ++ xs) (drop-drop 3 at input));
      lines = stands.lines;
    }

-- there it has room
pub stands_fits : (input : List ℕ) (at : ℕ) → take 3 (drop at input) ≡ parting_line → at + 3 ≤ length input
stands_fits input at line = omega (arith, ap length line, length-take 3 (drop at input), length-drop at input)

-- whole lines end where they are empty, or with LF
pub lines_end : (input : List ℕ) (at : ℕ) → at ≤ length input → 1 ≤ at →
    AreLines (take at input) ↔ (get_or input (at - 1) 0 ≡ 10)
lines_end input at inside some = (back, λ same. inr (take (at - 1) input, last same))
  where
    last : get_or input (at - 1) 0 ≡ 10 → take at input ≡ take (at - 1) input ++ line_end
    last same =
        let whole : at ≡ at - 1 + 1 = omega arith in
        ap (λ n. take n input) whole ∙ take_more input (at - 1) 0 (omega arith)
        ∙ ap (λ byte. take (at - 1) input ++ byte ∷ []) same

    long : length (take at input) ≡ at
    long = length-take-le at input inside

    back : AreLines (take at input) → get_or input (at - 1) 0 ≡ 10
    back (inl none) = absurd (omega (arith, ap length none, long, some))
    back (inr (front, ends)) =
        let place : at - 1 ≡ length front = omega (arith, long, ap length ends, length-append front line_end) in
        sym (get_or-take at input (at - 1) 0 (omega arith)) ∙ ap (λ xs. get_or xs (at - 1) 0) ends
        ∙ ap (λ n. get_or (front ++ line_end) n 0) place ∙ get_or-append_seam front 10 [] 0

-- and where the input is parted, it stands
stands_between : (before after input : List ℕ) → IsPartedInput input before after → LineStandsAt input (length before)
stands_between before after input parted =
    record {
      line =
          ap (λ xs. take 3 (drop (length before) xs)) parted.text
          ∙ ap (take 3) (drop-append_seam before (parting_line ++ after));
      lines = rw (ap (take (length before)) parted.text ∙ take-append_seam before (parting_line ++ after)) parted.lines;
    }

-- it stands inside the input
stands_inside : (before after input : List ℕ) → IsPartedInput input before after → length before < length input
stands_inside before after input parted =
    omega (arith, ap length parted.text, length-append before (parting_line ++ after), length-append parting_line after)

-- the first place where it stands parts the input
pub first_parts : (input : List ℕ) (at : ℕ) → at ≤ length input → LineStandsAt input at →
    ((k : ℕ) → k < at → LineStandsAt input k → ⊥) → InputParts input (take at input) (drop (at + 3) input)
first_parts input at inside stands none =
    record {
      parted = parted_at input at stands;
      first = λ before after parted. by_place before after parted (cases_lt (length before) at);
    }
  where
    by_place : (before after : List ℕ) → IsPartedInput input before after →
        (length before < at) ⊎ (at ≤ length before) → length (take at input) ≤ length before
    by_place before after parted (inl less) =
        absurd (none (length before) less (stands_between before after input parted))
    by_place before after parted (inr more) = omega (arith, length-take-le at input inside, more)

-- where it stands nowhere, nothing parts the input
pub no_parting : (input : List ℕ) → ((k : ℕ) → k < length input → LineStandsAt input k → ⊥) → HasNoParting input
no_parting input none before after parted =
    none (length before) (stands_inside before after input parted) (stands_between before after input parted)

-- an input is parted in one way
pub one_parting : (input script trace script' trace' : List ℕ) → InputParts input script trace →
    InputParts input script' trace' → (script ≡ script') × (trace ≡ trace')
one_parting input script trace script' trace' parts parts' = (same_front, same_rest)
  where
    same_length : length script ≡ length script'
    same_length =
        omega (arith, parts.first script' trace' parts'.parted, parts'.first script trace parts.parted)

    same_front : script ≡ script'
    same_front =
        sym (ap (take (length script)) parts.parted.text ∙ take-append_seam script (parting_line ++ trace))
        ∙ ap (λ n. take n input) same_length
        ∙ ap (take (length script')) parts'.parted.text
        ∙ take-append_seam script' (parting_line ++ trace')

    rest_of : (front rest : List ℕ) → IsPartedInput input front rest → drop 3 (drop (length front) input) ≡ rest
    rest_of front rest parted =
        ap (λ xs. drop 3 (drop (length front) xs)) parted.text
        ∙ ap (drop 3) (drop-append_seam front (parting_line ++ rest)) ∙ drop-append_seam parting_line rest

    same_rest : trace ≡ trace'
    same_rest =
        sym (rest_of script trace parts.parted) ∙ ap (λ n. drop 3 (drop n input)) same_length
        ∙ rest_of script' trace' parts'.parted

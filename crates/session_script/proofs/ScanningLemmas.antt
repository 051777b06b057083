-- How the tokens of a text come off its front.
use Rattle.std.proofs.Common.{◌≡◌, ℕ, ◌+◌, ◌<◌, ◌≤◌, true, false, List, [], ◌∷◌, length, take, drop, get_or, refl, sym, ap, ◌∙◌, arith, add-zero, length-drop, length-take-le, get_or-drop}
use Rattle.std.proofs.lemmas.List.{drop_more, take_more}
use Rattle.session_script.specs.Tokens.{end, token, is_printable, line_after, position_of, tokens_from}

-- a byte that is no part of a token, with no run before it, is skipped
pub skip_one : (line count i : ℕ) (text : List ℕ) → i < length text → is_printable (get_or text i 0) ≡ false →
    tokens_from line count [] (drop i text)
    ≡ tokens_from (line_after line (get_or text i 0)) count [] (drop (i + 1) text)
unfolding tokens_from
skip_one line count i text within blank = rw (drop_more text i 0 within, blank) refl

-- a printable byte joins the run before it
pub run_one : (line count i : ℕ) (text : List ℕ) → i < length text → is_printable (get_or text i 0) ≡ true →
    tokens_from line count (take i text) (drop i text) ≡ tokens_from line count (take (i + 1) text) (drop (i + 1) text)
unfolding tokens_from
run_one line count i text within printable = rw (drop_more text i 0 within, printable, take_more text i 0 within) refl

-- a run ends where the text does, or before a byte that isn't printable
pub run_ends : (line count : ℕ) (b : ℕ) (run rest : List ℕ) →
    (0 < length rest → is_printable (get_or rest 0 0) ≡ false) →
    tokens_from line count (b ∷ run) rest
    ≡ token (b ∷ run) (position_of line count) (tokens_from line (count + 1) [] rest)
unfolding tokens_from
run_ends line count b run [] stops = refl
run_ends line count b run (c ∷ rest) stops = let blank : is_printable c ≡ false = stops (omega arith) in rw blank refl

-- nothing is left
pub text_ends : (line count : ℕ) → tokens_from line count [] [] ≡ end (position_of line count)
unfolding tokens_from
text_ends line count = refl

pub run_is_token : (line count : ℕ) (run rest : List ℕ) → 0 < length run →
    (0 < length rest → is_printable (get_or rest 0 0) ≡ false) →
    tokens_from line count run rest ≡ token run (position_of line count) (tokens_from line (count + 1) [] rest)
run_is_token line count [] rest some stops = absurd (omega arith)
run_is_token line count (b ∷ run) rest some stops = run_ends line count b run rest stops

-- a longest run at the front is the next token
pub token_comes : (line count n : ℕ) (text : List ℕ) → 0 < n → n ≤ length text →
    (n < length text → is_printable (get_or text n 0) ≡ false) →
    tokens_from line count (take n text) (drop n text)
    ≡ token (take n text) (position_of line count) (tokens_from line (count + 1) [] (drop n text))
token_comes line count n text some within stops =
    run_is_token line count (take n text) (drop n text) (omega (arith, length-take-le n text within))
    (λ more.
    ap is_printable (get_or-drop n text 0 0 ∙ ap (λ i. get_or text i 0) (add-zero n))
    ∙ stops (omega (arith, length-drop n text)))

-- nothing but blanks is left
pub end_comes : (line count after : ℕ) (text rest : List ℕ) →
    ((n : ℕ) → tokens_from after n [] rest ≡ tokens_from line n [] text) → length rest ≤ 0 →
    end (position_of after count) ≡ tokens_from line count [] text
end_comes line count after text [] same none = sym (text_ends after count) ∙ same count
end_comes line count after text (b ∷ rest) same none = absurd (omega arith)

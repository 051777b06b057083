-- The tokens of a text that is written of tokens.
use Rattle.std.proofs.Common.{◌≡◌, ℕ, ◌+◌, ◌≤◌, Bool, true, false, cond, List, [], ◌∷◌, ◌++◌, length, refl, sym, ap, ◌∙◌, append_assoc, arith, length-append}
use Rattle.std.proofs.lemmas.Bool.{and_parts}
use Rattle.std.proofs.lemmas.List.{append-nil}
use Rattle.std.proofs.lemmas.List.Elements.{recursion_from_All}
use Rattle.std.specs.List.{All, AllByRecursion, list_all}
use Rattle.session_script.specs.Tokens.{Tokens, end, is_printable, line_after, position_of, closed, tokens_from, tokens_of}
use Rattle.session_script.specs.Text.{Words, words_of}
use Rattle.session_script.specs.Spelling.{written}
use Rattle.session_script.specs.Grammar.{is_text, text_len}
use Rattle.session_script.proofs.ScanningLemmas.{run_is_token}

-- a word that is read as one token
abbrev pub IsToken : List ℕ → Type 0
IsToken w = (1 ≤ length w) × (list_all is_printable w ≡ true)

-- how many bytes words take with one more byte each
abbrev pub size : Words → ℕ
size [] = 0
size (w ∷ ws) = length w + 1 + size ws

-- words, each after one space
abbrev spaced : Words → List ℕ
spaced [] = []
spaced (w ∷ ws) = 32 ∷ (w ++ spaced ws)

written_spaced : (first : List ℕ) (ws : Words) → written first ws ≡ first ++ spaced ws
written_spaced first [] = sym (append-nil first)
written_spaced first (w ∷ ws) = written_spaced (first ++ 32 ∷ w) ws ∙ append_assoc first (32 ∷ w) (spaced ws)

-- printable bytes join the run before them
joins_run : (line count : ℕ) (run w rest : List ℕ) → list_all is_printable w ≡ true →
    tokens_from line count run (w ++ rest) ≡ tokens_from line count (run ++ w) rest
unfolding tokens_from
joins_run line count run [] rest printable = ap (λ r. tokens_from line count r rest) (sym (append-nil run))
joins_run line count run (b ∷ w) rest printable =
    let parts = and_parts (is_printable b) (list_all is_printable w) printable in
    rw parts.0 (joins_run line count (run ++ b ∷ []) w rest parts.1
    ∙ ap (λ r. tokens_from line count r rest) (append_assoc run (b ∷ []) w))

-- a space with no run before it is skipped
space_skipped : (line count : ℕ) (rest : List ℕ) →
    tokens_from line count [] (32 ∷ rest) ≡ tokens_from line count [] rest
unfolding tokens_from is_printable
space_skipped line count rest = refl

space_stops : is_printable 32 ≡ false
unfolding is_printable
space_stops = refl

none_left : (line count : ℕ) → words_of (tokens_from line count [] []) ≡ []
unfolding tokens_from
none_left line count = refl

-- the run before a space is a token, and so is each word after it
spaced_words : (line count : ℕ) (first : List ℕ) (ws : Words) → AllByRecursion IsToken (first ∷ ws) →
    words_of (tokens_from line count first (spaced ws)) ≡ first ∷ ws
spaced_words line count first [] are =
    ap words_of (run_is_token line count first [] are.0.0 (λ more. absurd (omega arith)))
    ∙ ap (λ ws. first ∷ ws) (none_left line (count + 1))
spaced_words line count first (w ∷ ws) are =
    ap words_of (run_is_token line count first (spaced (w ∷ ws)) are.0.0 (λ more. space_stops))
    ∙ ap (λ ts. first ∷ words_of ts)
    (space_skipped line (count + 1) (w ++ spaced ws) ∙ joins_run line (count + 1) [] w (spaced ws) are.1.0.1)
    ∙ ap (λ ws. first ∷ ws) (spaced_words line (count + 1) w ws are.1)

-- a text that was written of words that are tokens has these tokens
pub words_written : (first : List ℕ) (ws : Words) → All IsToken (first ∷ ws) →
    words_of (tokens_of (written first ws)) ≡ first ∷ ws
words_written first ws are =
    let each = recursion_from_All IsToken (first ∷ ws) are in
    ap (λ text. words_of (tokens_of text)) (written_spaced first ws)
    ∙ ap words_of (joins_run 1 0 [] first (spaced ws) each.0.1)
    ∙ spaced_words 1 0 first ws each

printable_is_text : (b : ℕ) → is_printable b ≡ true → is_text b ≡ true
unfolding is_text
printable_is_text b printable = rw printable refl

-- the bytes of a word are text
text_after_word : (w rest : List ℕ) → list_all is_printable w ≡ true → text_len (w ++ rest) ≡ length w + text_len rest
text_after_word [] rest printable = omega arith
text_after_word (b ∷ w) rest printable =
    let parts = and_parts (is_printable b) (list_all is_printable w) printable in
    rw (printable_is_text b parts.0) (omega (arith, text_after_word w rest parts.1))

space_is_text : (rest : List ℕ) → text_len (32 ∷ rest) ≡ 1 + text_len rest
unfolding is_text is_printable
space_is_text rest = refl

joined_is_text : (first : List ℕ) (ws : Words) → AllByRecursion IsToken (first ∷ ws) →
    text_len (first ++ spaced ws) ≡ length (first ++ spaced ws)
joined_is_text first [] are = omega (arith, text_after_word first [] are.0.1, length-append first [])
joined_is_text first (w ∷ ws) are =
    omega (
      arith,
      text_after_word first (spaced (w ∷ ws)) are.0.1,
      space_is_text (w ++ spaced ws),
      joined_is_text w ws are.1,
      length-append first (spaced (w ∷ ws)),
    )

-- every byte of a text that was written of tokens may stand in a script
pub written_is_text : (first : List ℕ) (ws : Words) → All IsToken (first ∷ ws) →
    text_len (written first ws) ≡ length (written first ws)
written_is_text first ws are =
    rw (written_spaced first ws) (joined_is_text first ws (recursion_from_All IsToken (first ∷ ws) are))

-- a written text has one byte between two words
pub length_written : (first : List ℕ) (ws : Words) → length (written first ws) + 1 ≡ size (first ∷ ws)
length_written first [] = omega arith
length_written first (w ∷ ws) = omega (arith, length_written (first ++ 32 ∷ w) ws, length-append first (32 ∷ w))

-- what fits either way fits
choice_size : (test : Bool) (ts other : Tokens) (n : ℕ) → size (words_of ts) ≤ n → size (words_of other) ≤ n →
    size (words_of (cond test ts other)) ≤ n
choice_size true ts other n first second = first
choice_size false ts other n first second = second

closed_size : (line count : ℕ) (run : List ℕ) (after : ℕ → Tokens) (n : ℕ) → ((k : ℕ) → size (words_of (after k)) ≤ n) →
    size (words_of (closed line count run after)) ≤ length run + n + 1
closed_size line count [] after n fits = omega (arith, fits count)
closed_size line count (b ∷ run) after n fits = omega (arith, fits (count + 1))

-- the tokens from a run and the bytes after it on
size_from : (line count : ℕ) (run bytes : List ℕ) →
    size (words_of (tokens_from line count run bytes)) ≤ length run + length bytes + 1
unfolding tokens_from
size_from line count run [] = closed_size line count run (λ n. end (position_of line n)) 0 (λ n. omega arith)
size_from line count run (b ∷ bytes) =
    choice_size (is_printable b) _ _ _ (omega (arith, size_from line count (run ++ b ∷ []) bytes, length-append run (b ∷ [])))
    (closed_size line count run (λ n. tokens_from (line_after line b) n [] bytes) (length (b ∷ bytes))
    (λ n. omega (arith, size_from (line_after line b) n [] bytes)))

-- the tokens of a text take no more bytes than it has
pub size_of_tokens : (bytes : List ℕ) → size (words_of (tokens_of bytes)) ≤ length bytes + 1
size_of_tokens bytes = omega (arith, size_from 1 0 [] bytes)

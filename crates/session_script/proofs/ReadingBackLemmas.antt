-- The canonical text of a script is read as that script.
use Rattle.std.proofs.Common.{◌≡◌, ℕ, ◌+◌, ◌≤◌, ◌⊎◌, Bool, true, false, cond, List, [], ◌∷◌, length, None, Result, Ok, Err, refl, sym, ap, subst, ◌∙◌, inl, inr, arith}
use Rattle.std.specs.Prelude.{nat_lt}
use Rattle.std.specs.Fmt.{decimal}
use Rattle.std.proofs.lemmas.Bool.Decides.{nat_tests}
use Rattle.std.proofs.lemmas.List.Sums.{prefix_len-le-length}
use lib.Chars.{codes}
use Rattle.session_script.specs.declared.refusal.Refusal.{Refusal}
use Rattle.session_script.specs.Script.{ScriptModel}
use Rattle.session_script.specs.Tokens.{tokens_of}
use Rattle.session_script.specs.Limits.{most_bytes, limits_of}
use Rattle.session_script.specs.Kinds.{is_number, number}
use Rattle.session_script.specs.Grammar as grammar
use Rattle.session_script.specs.Grammar.{is_text, text_len, whole, reading, IsScript}
use Rattle.session_script.specs.Text.{Words, words_of, IsLater, IsBodyText, IsScriptText}
use Rattle.session_script.specs.WellFormed.{IsWellFormed}
use Rattle.session_script.specs.Spelled.{SpellsScript}
use Rattle.session_script.specs.Spelling.{words_after_session, spelling_of, upgraded}
use Rattle.session_script.proofs.TokenizingLemmas.{size, words_written, written_is_text, length_written, size_of_tokens}
use Rattle.session_script.proofs.NumeralsLemmas.{numeral_is_decimal}
use Rattle.session_script.proofs.LaterLemmas.{later_body}
use Rattle.session_script.proofs.WholeLemmas.{script_is_well_formed}
use Rattle.session_script.proofs.UpgradingLemmas.{upgraded_is_well_formed}
use Rattle.session_script.proofs.SpelledScriptLemmas.{script_is_spelled}
use Rattle.session_script.proofs.CanonicalScriptLemmas.{canonical, spelled_again, no_longer, all_tokens}
use Rattle.session_script.proofs.AcceptingScriptLemmas.{script_is_read}

-- a test whose true side is an error was false
went_on : {X : Type 0} (test : Bool) (refusal : Refusal) (rest : Result X Refusal) (x : X) →
    cond test (Err refusal) rest ≡ Ok x → (test ≡ false) × (rest ≡ Ok x)
went_on true refusal rest x is = cc is
went_on false refusal rest x is = (refl, is)

not_above : (m n : ℕ) → nat_lt m n ≡ false → n ≤ m
not_above m n h = grind (arith, nat_tests, h)

above_is_false : (m n : ℕ) → n ≤ m → nat_lt m n ≡ false
above_is_false m n h = grind (arith, nat_tests, h)

prefix_le : (bytes : List ℕ) → text_len bytes ≤ length bytes
prefix_le bytes = prefix_len-le-length is_text bytes

-- what is read is spelled by the grammar, and within the limits
pub spells : (bytes : List ℕ) (script : ScriptModel) → IsScript bytes script → SpellsScript bytes script
unfolding IsScript reading
spells bytes script is =
    let long = went_on (nat_lt most_bytes (length bytes)) _ _ script is in
    let text = went_on (nat_lt (text_len bytes) (length bytes)) _ _ script long.1 in
    record {
      size = not_above most_bytes (length bytes) long.0;
      text =
          let le : length bytes ≤ text_len bytes = not_above (text_len bytes) (length bytes) text.0 in
          omega (arith, le, prefix_le bytes);
      words = script_is_spelled bytes script is;
      limits = script_is_well_formed bytes script is;
    }

-- the parts of a script before its end, read one after another
pub is_read : (bytes : List ℕ) (script : ScriptModel) → length bytes ≤ most_bytes → text_len bytes ≡ length bytes →
    whole (grammar.script (tokens_of bytes)) ≡ Ok script → IsScript bytes script
unfolding IsScript reading
is_read bytes script short text read =
    rw (above_is_false most_bytes (length bytes) short, above_is_false (text_len bytes) (length bytes) (omega (arith, text))) read

-- both versions nest as deep
same_nesting : (version : ℕ) → (version ≡ 1) ⊎ (version ≡ 2) → (limits_of version).nesting ≡ (limits_of 2).nesting
unfolding limits_of
same_nesting version (inl one) = rw one refl
same_nesting version (inr two) = rw two refl

reads_one : number (codes "1") ≡ Ok 1
unfolding number is_number
reads_one = refl

reads_two : number (codes "2") ≡ Ok 2
unfolding number is_number
reads_two = refl

-- and have one digit
one_digit : (version : ℕ) → (version ≡ 1) ⊎ (version ≡ 2) → length (decimal version) ≡ 1
one_digit version (inl one) = rw one (ap length (sym (numeral_is_decimal (codes "1") 1 reads_one)))
one_digit version (inr two) = rw two (ap length (sym (numeral_is_decimal (codes "2") 2 reads_two)))

second_is_later : IsLater 2
second_is_later e = cc e

module _ (script : ScriptModel) (ws : Words) (is : IsScriptText script ws) (formed : IsWellFormed script) where
  two_first : Words
  two_first = codes "session" ∷ codes "2" ∷ is.at_decls

  spelled_in_two : IsScriptText (upgraded script) two_first
  unfolding two_first
  spelled_in_two = record {
    at_version = codes "2" ∷ is.at_decls;
    at_decls = is.at_decls;
    at_lines = is.at_lines;
    at_open = is.at_open;
    at_body = is.at_body;
    at_rounds = is.at_rounds;
    session = refl;
    version = (codes "2", reads_two, refl);
    decls = is.decls;
    lines = is.lines;
    open_word = is.open_word;
    acts =
        later_body script.version 2 second_is_later
        (subst (λ levels. IsBodyText script.version levels None [] script.acts is.at_body is.at_rounds)
        (same_nesting script.version formed.version) is.acts);
    some_round = is.some_round;
    rounds = is.rounds;
  }

  as_long : size two_first ≡ size ws
  unfolding two_first
  as_long =
      let version_is : is.at_version ≡ decimal script.version ∷ is.at_decls =
      is.version.2 ∙ ap (λ w. w ∷ is.at_decls) (numeral_is_decimal is.version.0 script.version is.version.1) in
      rw (is.session, version_is) (omega (arith, one_digit script.version formed.version))

  -- the words of the upgrade
  pub upgraded_words : (others : Words) × IsScriptText (upgraded script) others × (size others ≡ size ws)
  upgraded_words = (two_first, spelled_in_two, as_long)

-- what is spelled, and is within the limits, is read
pub spelled_is_script : (bytes : List ℕ) (script : ScriptModel) → SpellsScript bytes script → IsScript bytes script
spelled_is_script bytes script spelled =
    is_read bytes script spelled.size spelled.text (script_is_read script (tokens_of bytes) spelled.words spelled.limits)

-- a canonical text that isn't too long is read back, where any words spell the script
pub canonical_is_read : (script : ScriptModel) (ws : Words) → IsScriptText script ws → IsWellFormed script →
    length (spelling_of script) ≤ most_bytes → IsScript (spelling_of script) script
unfolding spelling_of
canonical_is_read script ws is formed short =
    let tokens = all_tokens script ws is in
    let read : IsScriptText script (words_of (tokens_of (spelling_of script))) =
    subst (IsScriptText script) (sym (words_written (codes "session") (words_after_session script) tokens))
    (spelled_again script ws is) in
    is_read (spelling_of script) script short (written_is_text (codes "session") (words_after_session script) tokens)
    (script_is_read script (tokens_of (spelling_of script)) read formed)

-- it is no longer than any words that spell the script
canonical_is_shortest : (script : ScriptModel) (ws : Words) → IsScriptText script ws →
    length (spelling_of script) + 1 ≤ size ws
unfolding spelling_of
canonical_is_shortest script ws is =
    let long : length (spelling_of script) + 1 ≡ size (canonical script) =
    length_written (codes "session") (words_after_session script) in
    omega (arith, long, no_longer script ws is)

reads_back : (script : ScriptModel) (ws : Words) → IsScriptText script ws → IsWellFormed script →
    size ws ≤ most_bytes + 1 → IsScript (spelling_of script) script × (length (spelling_of script) + 1 ≤ size ws)
reads_back script ws is formed short =
    let shortest = canonical_is_shortest script ws is in
    (canonical_is_read script ws is formed (omega (arith, shortest, short)), shortest)

pub written_is_read : (bytes : List ℕ) (script : ScriptModel) → IsScript bytes script →
    IsScript (spelling_of script) script × (length (spelling_of script) ≤ length bytes)
written_is_read bytes script is =
    let spelled = spells bytes script is in
    let back =
    reads_back script (words_of (tokens_of bytes)) spelled.words spelled.limits
    (omega (arith, spelled.size, size_of_tokens bytes)) in
    (back.0, omega (arith, back.1, size_of_tokens bytes))

pub upgrade_is_read : (bytes : List ℕ) (script : ScriptModel) → IsScript bytes script →
    IsScript (spelling_of (upgraded script)) (upgraded script) × (length (spelling_of (upgraded script)) ≤ length bytes)
upgrade_is_read bytes script is =
    let spelled = spells bytes script is in
    let words = upgraded_words script (words_of (tokens_of bytes)) spelled.words spelled.limits in
    let back =
    reads_back (upgraded script) words.0 words.1 (upgraded_is_well_formed script spelled.limits)
    (omega (arith, words.2, spelled.size, size_of_tokens bytes)) in
    (back.0, omega (arith, back.1, words.2, size_of_tokens bytes))

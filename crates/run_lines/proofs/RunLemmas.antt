-- A run tells its entries.
use Rattle.std.proofs.Common.{◌≡◌, ◌≢◌, ℕ, ◌<◌, Bool, true, false, not, ◌&&◌, ◌==◌, nat_le, List, [], ◌∷◌, ◌++◌, length, Result, Ok, refl, sym, ap, ◌∙◌, arith, append_assoc}
use Rattle.std.specs.List.{flat_map, join_with_byte, list_all}
use Rattle.std.proofs.lemmas.Bool.Decides.{nat_tests}
use Rattle.run_lines.specs.declared.bad_line.BadLine.{BadLine}
use Rattle.run_lines.specs.Entry.{IsEntry, IsEntryText, PlainEntry, line, name, entry_text, entry_words}
use Rattle.run_lines.specs.Name.{IsText, is_printable, is_text}
use Rattle.run_lines.specs.Reading.{Rest, entry_in}
use Rattle.run_lines.specs.Run.{AreEntries, EntriesAreUnique, EntriesStandOnOneLine, IsRunText, RunsAreUnique, lacks, run_text, with_line_feed}
use Rattle.run_lines.specs.Words.{words_of}
use Rattle.run_lines.proofs.BackLemmas.{AllLack, digits_lack, doing_lacks, entry_back, kind_lacks, lacks-append, lacks_first}
use Rattle.run_lines.proofs.LettersLemmas.{both_true}

pub entries_are_unique : EntriesAreUnique
entries_are_unique bytes first second a b =
    let x : entry_in (words_of bytes) ≡ Ok first = ap (λ text. entry_in (words_of text)) a.1 ∙ entry_back first a.0 in
    let y : entry_in (words_of bytes) ≡ Ok second = ap (λ text. entry_in (words_of text)) b.1 ∙ entry_back second b.0 in
    let same : ◌≡◌ {A = Result PlainEntry BadLine} (Ok first) (Ok second) = sym x ∙ y in
    cc

-- words that hold no line feed, with spaces between them
joined_lack : (byte : ℕ) (words : Rest) → (32 == byte) ≡ false → AllLack byte words → lacks byte (join_with_byte 32 words) ≡ true
joined_lack byte [] other h = refl
joined_lack byte (word ∷ []) other h = h.0
joined_lack byte (word ∷ next ∷ words) other h =
    let rest : lacks byte (join_with_byte 32 (next ∷ words)) ≡ true = joined_lack byte (next ∷ words) other h.1 in
    lacks-append byte word (32 ∷ join_with_byte 32 (next ∷ words)) h.0
    (ap (λ test. not test && lacks byte (join_with_byte 32 (next ∷ words))) other ∙ rest)

-- what is printed is no line feed
printed_lack : (bytes : List ℕ) → list_all is_printable bytes ≡ true → lacks 10 bytes ≡ true
printed_lack [] h = refl
printed_lack (b ∷ bytes) h =
    let parts = both_true (is_printable b) (list_all is_printable bytes) h in
    let rest : lacks 10 bytes ≡ true = printed_lack bytes parts.1 in
    let here : is_printable b ≡ true = parts.0 in
    let differs : not (b == 10) ≡ true = grind (arith, nat_tests) in
    rw (differs, rest) refl

text_lacks : (text : List ℕ) → IsText text → lacks 10 text ≡ true
unfolding is_text
text_lacks [] h = refl
text_lacks (b ∷ text) h =
    printed_lack (b ∷ text) (both_true (not (length (b ∷ text) == 0)) (list_all is_printable (b ∷ text)) h).1

pub entries_stand_on_one_line : EntriesStandOnOneLine
entries_stand_on_one_line (line happened) h =
    let each : AllLack 10 (entry_words (line happened)) =
    (digits_lack 10 happened.thread (omega arith) h.0, doing_lacks 10 happened.does (omega arith) h.1) in
    joined_lack 10 (entry_words (line happened)) refl each
entries_stand_on_one_line (name kind number text) h =
    let each : AllLack 10 (entry_words (name kind number text)) =
    (refl, (kind_lacks 10 kind (omega arith), (digits_lack 10 number (omega arith) h.0, (text_lacks text h.1, tt)))) in
    joined_lack 10 (entry_words (name kind number text)) refl each

-- a text is cut in one way at its first line feed
pub cut_once : (a b x y : List ℕ) → lacks 10 a ≡ true → lacks 10 b ≡ true → a ++ 10 ∷ x ≡ b ++ 10 ∷ y → (a ≡ b) × (x ≡ y)
cut_once [] [] x y h k e = (refl, cc)
cut_once [] (b ∷ bs) x y h k e =
    let first : 10 ≡ b = cc in let other = (lacks_first 10 b bs k).0 in absurd (grind (arith, nat_tests))
cut_once (a ∷ ats) [] x y h k e =
    let first : a ≡ 10 = cc in let other = (lacks_first 10 a ats h).0 in absurd (grind (arith, nat_tests))
cut_once (a ∷ ats) (b ∷ bs) x y h k e =
    let first : a ≡ b = cc in
    let rest : ats ++ 10 ∷ x ≡ bs ++ 10 ∷ y = cc in
    let more = cut_once ats bs x y (lacks_first 10 a ats h).1 (lacks_first 10 b bs k).1 rest in
    let same : ats ≡ bs = more.0 in
    (cc, more.1)

-- the lines behind the header
abbrev body : List PlainEntry → List ℕ
body entries = flat_map (λ entry. with_line_feed (entry_text entry)) entries

no_line : (a x : List ℕ) → ◌≡◌ {A = List ℕ} [] (a ++ 10 ∷ [] ++ x) → ⊥
no_line [] x e = cc
no_line (b ∷ a) x e = cc

bodies_are_unique : (first second : List PlainEntry) → AreEntries first → AreEntries second →
    body first ≡ body second → first ≡ second
bodies_are_unique [] [] h k same = refl
bodies_are_unique [] (f ∷ second) h k same = absurd (no_line (entry_text f) (body second) same)
bodies_are_unique (e ∷ first) [] h k same = absurd (no_line (entry_text e) (body first) (sym same))
bodies_are_unique (e ∷ first) (f ∷ second) h k same =
    let cut = cut_once (entry_text e) (entry_text f) (body first) (body second) (entries_stand_on_one_line e h.0)
    (entries_stand_on_one_line f k.0)
    (sym (append_assoc (entry_text e) (10 ∷ []) (body first)) ∙ same ∙ append_assoc (entry_text f) (10 ∷ []) (body second)) in
    let here : e ≡ f = entries_are_unique (entry_text e) e f (h.0, refl) (k.0, cut.0) in
    let rest : first ≡ second = bodies_are_unique first second h.1 k.1 cut.1 in
    cc

pub runs_are_unique : RunsAreUnique
runs_are_unique bytes first second a b =
    let same : run_text first ≡ run_text second = sym a.1 ∙ b.1 in
    let rest : body first ≡ body second = cc in
    bodies_are_unique first second a.0 b.0 rest

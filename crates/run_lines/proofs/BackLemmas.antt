-- The text of an entry is read as that entry.
use Rattle.std.proofs.Common.{◌≡◌, ℕ, ◌+◌, ◌<◌, ◌%◌, Bool, true, false, not, ◌&&◌, ◌==◌, List, [], ◌∷◌, ◌++◌, Option, Some, None, Ok, Err, refl, ap, ◌∙◌, arith, codes, if◌then◌else◌}
use Rattle.std.specs.Fmt.{decimal}
use Rattle.std.specs.List.{join_with_byte, list_all}
use Rattle.std.specs.Str.{bytes_eq}
use Rattle.std.specs.Str.Parse.{AllDigits}
use Rattle.std.proofs.lemmas.Bool.Decides.{nat_tests}
use Rattle.std.proofs.lemmas.Fmt.{decimal_is_IsNumeral, decimal_by_steps}
use Rattle.std.proofs.lemmas.List.Splits.{join_with_byte-slice_split}
use Rattle.run_lines.specs.declared.bad_line.Wants.TheVariants as wants
use Rattle.run_lines.specs.declared.code.Code.{Code}
use Rattle.run_lines.specs.declared.code.Code.TheVariants as code
use Rattle.run_lines.specs.declared.line.Doing.{Doing}
use Rattle.run_lines.specs.declared.line.Doing.TheVariants as doing
use Rattle.run_lines.specs.declared.name.Kind.{Kind}
use Rattle.run_lines.specs.declared.name.Kind.TheVariants as kind
use Rattle.run_lines.specs.declared.word.Word.{Word}
use Rattle.run_lines.specs.declared.word.Word.TheVariants as word
use Rattle.run_lines.specs.BadLine.{wrong}
use Rattle.run_lines.specs.Code.{IsCode, code_text}
use Rattle.run_lines.specs.Entry.{IsEntry, PlainEntry, line, name, entry_text}
use Rattle.run_lines.specs.Letters.{IsLetters, are_letters, is_small_letter, may_follow}
use Rattle.run_lines.specs.Line.{IsDoing, doing_words}
use Rattle.run_lines.specs.Name.{IsText, is_text, kind_text}
use Rattle.run_lines.specs.Number.{Is64, IsOptional, number_in, optional_text}
use Rattle.run_lines.specs.Reading.{Rest, ◌>>=◌, call_in, code_at, code_in, doing_in, end_at, entry_in, found, kind_at, line_in, name_in, number_at, one_in, optional_at, optional_in, outcome_in, text_at, value_at, verb_at, verb_in, word_at, word_in}
use Rattle.run_lines.specs.Run.{lacks}
use Rattle.run_lines.specs.Word.{IsWord, word_text}
use Rattle.run_lines.specs.Words.{words_of}
use Rattle.run_lines.proofs.LettersLemmas.{both_true}
use Rattle.run_lines.proofs.ValuesLemmas.{code_back, kind_back, number_back, optional_back, word_back}

pub lacks_first : (byte b : ℕ) (bytes : List ℕ) → lacks byte (b ∷ bytes) ≡ true →
    ((b == byte) ≡ false) × (lacks byte bytes ≡ true)
lacks_first byte b bytes h = (grind (arith, nat_tests), grind (arith, nat_tests))

pub lacks-append : (byte : ℕ) (front back : List ℕ) → lacks byte front ≡ true → lacks byte back ≡ true →
    lacks byte (front ++ back) ≡ true
lacks-append byte [] back f b = b
lacks-append byte (x ∷ front) back f b =
    let parts = both_true (not (x == byte)) (lacks byte front) f in
    let rest : lacks byte (front ++ back) ≡ true = lacks-append byte front back parts.1 b in
    let here : not (x == byte) ≡ true = parts.0 in
    rw (here, rest) refl

-- a line is cut behind a word without spaces
pub words_front : (word rest : List ℕ) → lacks 32 word ≡ true → words_of (word ++ 32 ∷ rest) ≡ word ∷ words_of rest
words_front [] rest h = refl
words_front (b ∷ word) rest h =
    let parts = lacks_first 32 b word h in rw (parts.0, words_front word rest parts.1) refl

pub words_alone : (word : List ℕ) → lacks 32 word ≡ true → words_of word ≡ word ∷ []
words_alone [] h = refl
words_alone (b ∷ word) h = let parts = lacks_first 32 b word h in rw (parts.0, words_alone word parts.1) refl

-- words without spaces are found again
abbrev pub AllLack : ℕ → Rest → Type 0
AllLack byte [] = Unit {0}
AllLack byte (word ∷ words) = (lacks byte word ≡ true) × AllLack byte words

words_joined : (word : List ℕ) (words : Rest) → AllLack 32 (word ∷ words) →
    words_of (join_with_byte 32 (word ∷ words)) ≡ word ∷ words
words_joined word [] h = words_alone word h.0
words_joined word (next ∷ words) h =
    words_front word (join_with_byte 32 (next ∷ words)) h.0 ∙ ap (λ ws. word ∷ ws) (words_joined next words h.1)

-- digits are neither a space nor a line feed
pub digits_lack : (byte n : ℕ) → byte < 48 → Is64 n → lacks byte (decimal n) ≡ true
digits_lack byte n low fits =
    decimal_by_steps (λ m ds. lacks byte ds ≡ true) (λ m small. grind (arith, nat_tests))
    (λ m ds large none. lacks-append byte ds ((48 + m % 10) ∷ []) none (grind (arith, nat_tests))) n fits

optional_lacks : (byte : ℕ) (o : Option ℕ) → byte < 45 → IsOptional o → lacks byte (optional_text o) ≡ true
optional_lacks byte None low h = grind (arith, nat_tests)
optional_lacks byte (Some n) low h = digits_lack byte n (omega arith) h

-- letters neither
following_lack : (byte : ℕ) (bytes : List ℕ) → byte < 48 → list_all may_follow bytes ≡ true → lacks byte bytes ≡ true
following_lack byte [] low h = refl
following_lack byte (b ∷ bytes) low h =
    let parts = both_true (may_follow b) (list_all may_follow bytes) h in
    let rest : lacks byte bytes ≡ true = following_lack byte bytes low parts.1 in
    let here : may_follow b ≡ true = parts.0 in
    let differs : not (b == byte) ≡ true = grind (arith, nat_tests) in
    rw (differs, rest) refl

letters_lack : (byte : ℕ) (bytes : List ℕ) → byte < 48 → IsLetters bytes → lacks byte bytes ≡ true
unfolding are_letters
letters_lack byte [] low h = refl
letters_lack byte (b ∷ bytes) low h =
    let parts = both_true (is_small_letter b && list_all may_follow bytes) _ h in
    let halves = both_true (is_small_letter b) (list_all may_follow bytes) parts.0 in
    let rest : lacks byte bytes ≡ true = following_lack byte bytes low halves.1 in
    let here : is_small_letter b ≡ true = halves.0 in
    let differs : not (b == byte) ≡ true = grind (arith, nat_tests) in
    rw (differs, rest) refl

word_lacks : (byte : ℕ) (w : Word) → byte < 48 → IsWord w → lacks byte (word_text w) ≡ true
unfolding are_letters
word_lacks byte word.Post low h = letters_lack byte (codes "post") low refl
word_lacks byte word.Defer low h = letters_lack byte (codes "defer") low refl
word_lacks byte word.Dispatch low h = letters_lack byte (codes "dispatch") low refl
word_lacks byte (word.Other letters) low h = letters_lack byte letters low h.0

code_lacks : (byte : ℕ) (c : Code) → byte < 48 → IsCode c → lacks byte (code_text c) ≡ true
unfolding are_letters
code_lacks byte code.Ok low h = letters_lack byte (codes "ok") low refl
code_lacks byte code.Aborted low h = letters_lack byte (codes "aborted") low refl
code_lacks byte (code.Other letters) low h = letters_lack byte letters low h.0

pub kind_lacks : (byte : ℕ) (k : Kind) → byte < 48 → lacks byte (kind_text k) ≡ true
unfolding are_letters
kind_lacks byte kind.Strand low = letters_lack byte (codes "strand") low refl
kind_lacks byte kind.Thing low = letters_lack byte (codes "thing") low refl
kind_lacks byte kind.Op low = letters_lack byte (codes "op") low refl
kind_lacks byte kind.Thread low = letters_lack byte (codes "thread") low refl
kind_lacks byte kind.Context low = letters_lack byte (codes "context") low refl
kind_lacks byte kind.Lock low = letters_lack byte (codes "lock") low refl
kind_lacks byte kind.Mark low = letters_lack byte (codes "mark") low refl

one_lacks : (byte : ℕ) (verb : List ℕ) (n : ℕ) → byte < 45 → IsLetters verb → Is64 n → AllLack byte (verb ∷ decimal n ∷ [])
one_lacks byte verb n low is h = (letters_lack byte verb (omega arith) is, (digits_lack byte n (omega arith) h, tt))

outcome_lacks : (byte : ℕ) (verb : List ℕ) (op : ℕ) (c : Code) (size : ℕ) → byte < 45 → IsLetters verb → Is64 op → IsCode c →
    Is64 size → AllLack byte (verb ∷ decimal op ∷ code_text c ∷ decimal size ∷ [])
outcome_lacks byte verb op c size low is h i j = (
  letters_lack byte verb (omega arith) is,
  (
    digits_lack byte op (omega arith) h,
    (code_lacks byte c (omega arith) i, (digits_lack byte size (omega arith) j, tt)),
  ),
)

-- no word of what happened has a space or a line feed
pub doing_lacks : (byte : ℕ) (does : Doing) → byte < 45 → IsDoing does → AllLack byte (doing_words does)
unfolding are_letters
doing_lacks byte (doing.Call op w context strand thing) low h = (
  letters_lack byte (codes "call") (omega arith) refl,
  (
    digits_lack byte op (omega arith) h.0,
    (
      word_lacks byte w (omega arith) h.1,
      (
        digits_lack byte context (omega arith) h.2,
        (optional_lacks byte strand low h.3, (optional_lacks byte thing low h.4, tt)),
      ),
    ),
  ),
)
doing_lacks byte (doing.Back n) low h = one_lacks byte (codes "back") n low refl h
doing_lacks byte (doing.Done op c size) low h = outcome_lacks byte (codes "done") op c size low refl h.0 h.1 h.2
doing_lacks byte (doing.Begin op c size) low h = outcome_lacks byte (codes "begin") op c size low refl h.0 h.1 h.2
doing_lacks byte (doing.End n) low h = one_lacks byte (codes "end") n low refl h
doing_lacks byte (doing.Throw n) low h = one_lacks byte (codes "throw") n low refl h
doing_lacks byte (doing.Drop n) low h = one_lacks byte (codes "drop") n low refl h
doing_lacks byte (doing.Claim n) low h = one_lacks byte (codes "claim") n low refl h
doing_lacks byte (doing.Release n) low h = one_lacks byte (codes "release") n low refl h
doing_lacks byte (doing.Lock n) low h = one_lacks byte (codes "lock") n low refl h
doing_lacks byte (doing.Unlock n) low h = one_lacks byte (codes "unlock") n low refl h
doing_lacks byte (doing.Mark n) low h = one_lacks byte (codes "mark") n low refl h
doing_lacks byte (doing.After n) low h = one_lacks byte (codes "after") n low refl h
doing_lacks byte (doing.Cancel n) low h = one_lacks byte (codes "cancel") n low refl h
doing_lacks byte (doing.Work n) low h = one_lacks byte (codes "work") n low refl h
doing_lacks byte (doing.Stop n) low h = one_lacks byte (codes "stop") n low refl h
doing_lacks byte (doing.Restart n) low h = one_lacks byte (codes "restart") n low refl h

-- digits aren't the word `name`
no_name : (digits : List ℕ) → AllDigits 10 digits → bytes_eq digits (codes "name") ≡ false
no_name [] h = refl
no_name (digit ∷ digits) h = grind (arith, nat_tests)

-- what is said is read
one_back : (n : ℕ) → Is64 n → one_in (decimal n ∷ []) ≡ Ok n
unfolding one_in number_at
one_back n h = rw (number_back n h) refl

outcome_back : (op : ℕ) (c : Code) (size : ℕ) → Is64 op → IsCode c → Is64 size →
    outcome_in (decimal op ∷ code_text c ∷ decimal size ∷ []) ≡ Ok (op, c, size)
unfolding outcome_in number_at code_at
outcome_back op c size h i j =
    ap (λ f. found wants.Number 3 (code_text c ∷ decimal size ∷ []) f >>= λ o. value_at wants.Letters code_in 4
    o.1 >>= λ k. value_at wants.Number number_in 5 k.1 >>= λ s. end_at 6 s.1 >>= λ _. Ok (o.0, k.0, s.0)) (number_back op h)
    ∙ ap (λ f. found wants.Letters 4 (decimal size ∷ []) f >>= λ k. value_at wants.Number number_in 5 k.1 >>=
    λ s. end_at 6 s.1 >>= λ _. Ok (op, k.0, s.0)) (code_back c i)
    ∙ ap (λ f. found wants.Number 5 [] f >>= λ s. end_at 6 s.1 >>= λ _. Ok (op, c, s.0)) (number_back size j)

call_back : (op : ℕ) (w : Word) (context : ℕ) (strand thing : Option ℕ) → IsDoing (doing.Call op w context strand thing) →
    call_in (decimal op ∷ word_text w ∷ decimal context ∷ optional_text strand ∷ optional_text thing ∷ [])
    ≡ Ok (doing.Call op w context strand thing)
unfolding call_in number_at word_at optional_at
call_back op w context strand thing h =
    ap (λ f. found wants.Number 3
    (word_text w ∷ decimal context ∷ optional_text strand ∷ optional_text thing ∷ []) f >>= λ o. value_at
    wants.Letters word_in 4 o.1 >>= λ k. value_at wants.Number number_in 5 k.1 >>= λ x. value_at
    wants.NumberOrDash optional_in 6 x.1 >>= λ y. value_at wants.NumberOrDash optional_in 7 y.1 >>= λ z.
    end_at 8 z.1 >>= λ _. Ok (doing.Call o.0 k.0 x.0 y.0 z.0)) (number_back op h.0)
    ∙ ap (λ f. found wants.Letters 4 (decimal context ∷ optional_text strand ∷ optional_text thing ∷ []) f >>=
    λ k. value_at wants.Number number_in 5 k.1 >>= λ x. value_at wants.NumberOrDash optional_in 6 x.1 >>=
    λ y. value_at wants.NumberOrDash optional_in 7 y.1 >>= λ z. end_at 8 z.1 >>= λ _. Ok
    (doing.Call op k.0 x.0 y.0 z.0)) (word_back w h.1)
    ∙ ap (λ f. found wants.Number 5 (optional_text strand ∷ optional_text thing ∷ []) f >>= λ x. value_at
    wants.NumberOrDash optional_in 6 x.1 >>= λ y. value_at wants.NumberOrDash optional_in 7 y.1 >>= λ z.
    end_at 8 z.1 >>= λ _. Ok (doing.Call op w x.0 y.0 z.0)) (number_back context h.2)
    ∙ ap (λ f. found wants.NumberOrDash 6 (optional_text thing ∷ []) f >>= λ y. value_at wants.NumberOrDash
    optional_in 7 y.1 >>= λ z. end_at 8 z.1 >>= λ _. Ok (doing.Call op w context y.0 z.0)) (optional_back strand h.3)
    ∙ ap (λ f. found wants.NumberOrDash 7 [] f >>= λ z. end_at 8 z.1 >>= λ _. Ok
    (doing.Call op w context strand z.0)) (optional_back thing h.4)

abbrev lined : ℕ → Doing → PlainEntry
lined thread does = line (record { thread = thread; does = does })

one_line : (thread : ℕ) (g : ℕ → Doing) (n : ℕ) → Is64 n →
    (one_in (decimal n ∷ []) >>= λ m. Ok (g m) >>= λ does. Ok (lined thread does)) ≡ Ok (lined thread (g n))
one_line thread g n h = rw (one_back n h) refl

outcome_line : (thread : ℕ) (g : ℕ × Code × ℕ → Doing) (op : ℕ) (c : Code) (size : ℕ) → Is64 op → IsCode c → Is64 size →
    (outcome_in (decimal op ∷ code_text c ∷ decimal size ∷ []) >>= λ of. Ok (g of) >>= λ does. Ok (lined thread does))
    ≡ Ok (lined thread (g (op, c, size)))
outcome_line thread g op c size h i j = rw (outcome_back op c size h i j) refl

line_back : (thread : ℕ) (does : Doing) → IsDoing does → line_in thread (doing_words does) ≡ Ok (lined thread does)
unfolding line_in verb_at verb_in doing_in
line_back thread (doing.Call op w context strand thing) h = rw (call_back op w context strand thing h) refl
line_back thread (doing.Back n) h = rw (one_back n h) refl
line_back thread (doing.Done op c size) h = rw (outcome_back op c size h.0 h.1 h.2) refl
line_back thread (doing.Begin op c size) h = rw (outcome_back op c size h.0 h.1 h.2) refl
line_back thread (doing.End n) h = rw (one_back n h) refl
line_back thread (doing.Throw n) h = rw (one_back n h) refl
line_back thread (doing.Drop n) h = rw (one_back n h) refl
line_back thread (doing.Claim n) h = rw (one_back n h) refl
line_back thread (doing.Release n) h = rw (one_back n h) refl
line_back thread (doing.Lock n) h = rw (one_back n h) refl
line_back thread (doing.Unlock n) h = rw (one_back n h) refl
line_back thread (doing.Mark n) h = rw (one_back n h) refl
line_back thread (doing.After n) h = rw (one_back n h) refl
line_back thread (doing.Cancel n) h = rw (one_back n h) refl
line_back thread (doing.Work n) h = rw (one_back n h) refl
line_back thread (doing.Stop n) h = rw (one_back n h) refl
line_back thread (doing.Restart n) h = rw (one_back n h) refl

name_back : (k : Kind) (number : ℕ) (text : List ℕ) → Is64 number → IsText text →
    name_in (kind_text k ∷ decimal number ∷ words_of text) ≡ Ok (name k number text)
unfolding name_in kind_at number_at
name_back k number text fits is =
    let whole : join_with_byte 32 (words_of text) ≡ text = join_with_byte-slice_split 32 text in
    ap (λ f. found wants.Kind 2 (decimal number ∷ words_of text) f >>= λ x. value_at wants.Number number_in 3
    x.1 >>= λ n. text_at 4 n.1 >>= λ t. Ok (name x.0 n.0 t)) (kind_back k)
    ∙ ap (λ f. found wants.Number 3 (words_of text) f >>= λ n. text_at 4 n.1 >>= λ t. Ok (name k n.0 t)) (number_back number fits)
    ∙ ap (λ t. (if is_text t then Ok t else Err (wrong 4 wants.Text)) >>= λ t. Ok (name k number t)) whole
    ∙ ap (λ test. (if test then Ok text else Err (wrong 4 wants.Text)) >>= λ t. Ok (name k number t)) is

-- the text of an entry is read as that entry
pub entry_back : (e : PlainEntry) → IsEntry e → entry_in (words_of (entry_text e)) ≡ Ok e
unfolding entry_in
entry_back (line happened) h =
    let thread : ℕ = happened.thread in
    let ws : Rest = doing_words happened.does in
    let cut : words_of (entry_text (line happened)) ≡ decimal thread ∷ ws =
    words_joined (decimal thread) ws (digits_lack 32 thread (omega arith) h.0, doing_lacks 32 happened.does (omega arith) h.1) in
    ap entry_in cut
    ∙ ap (λ test. if test then name_in ws else (found wants.Thread 1 ws (number_in (decimal thread)) >>= λ t. line_in t.0 t.1))
    (no_name (decimal thread) (decimal_is_IsNumeral thread h.0).0.1)
    ∙ ap (λ f. found wants.Thread 1 ws f >>= λ t. line_in t.0 t.1) (number_back thread h.0)
    ∙ line_back thread happened.does h.1
entry_back (name k number text) h =
    let cut : words_of (entry_text (name k number text)) ≡ codes "name" ∷ kind_text k ∷ decimal number ∷ words_of text =
    words_front (codes "name") (join_with_byte 32 (kind_text k ∷ decimal number ∷ text ∷ [])) refl
    ∙ ap (λ ws. codes "name" ∷ ws)
    (words_front (kind_text k) (join_with_byte 32 (decimal number ∷ text ∷ [])) (kind_lacks 32 k (omega arith))
    ∙ ap (λ ws. kind_text k ∷ ws) (words_front (decimal number) text (digits_lack 32 number (omega arith) h.0))) in
    ap entry_in cut ∙ name_back k number text h.0 h.1

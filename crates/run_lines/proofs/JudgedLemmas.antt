-- What is read is what stands there, and what is refused is bad where it says.
use Rattle.std.proofs.Common.{◌≡◌, ℕ, ◌+◌, Bool, true, false, List, [], ◌∷◌, Option, Some, None, Result, Ok, Err, refl, sym, ap, ◌∙◌, ◌⊎◌, inl, inr, codes, if◌then◌else◌}
use Rattle.std.specs.Fmt.{decimal}
use Rattle.std.specs.List.{join_with_byte}
use Rattle.std.specs.Str.{bytes_eq}
use Rattle.std.proofs.lemmas.Slice.Eq.{bytes_eq-Decides}
use Rattle.run_lines.specs.declared.bad_line.BadLine.{BadLine}
use Rattle.run_lines.specs.declared.bad_line.Wants.{Wants}
use Rattle.run_lines.specs.declared.bad_line.Wants.TheVariants as wants
use Rattle.run_lines.specs.declared.code.Code.{Code}
use Rattle.run_lines.specs.declared.line.Doing.{Doing}
use Rattle.run_lines.specs.declared.line.Doing.TheVariants as doing
use Rattle.run_lines.specs.declared.verb.Verb.{Verb}
use Rattle.run_lines.specs.declared.verb.Verb.TheVariants as verb
use Rattle.run_lines.specs.BadLine.{IsBadFrom, IsBadLine, MayBe, fields_of, name_fields, wrong}
use Rattle.run_lines.specs.Code.{IsCode, code_text}
use Rattle.run_lines.specs.Entry.{IsEntry, PlainEntry, line, name, entry_text}
use Rattle.run_lines.specs.Line.{IsDoing, doing_words}
use Rattle.run_lines.specs.Name.{IsText, is_text, kind_text}
use Rattle.run_lines.specs.Number.{Is64, number_in}
use Rattle.run_lines.specs.Reading.{Rest, ◌>>=◌, call_in, code_at, code_in, doing_in, end_at, entry_in, found, kind_at, kind_in, line_in, name_in, number_at, one_in, optional_at, optional_in, outcome_in, text_at, value_at, verb_at, verb_in, word_at, word_in}
use Rattle.run_lines.specs.Verb.{verb_text}
use Rattle.run_lines.proofs.ValuesLemmas.{Reads, SaysCode, SaysKind, SaysNumber, SaysOptional, SaysWord, coded, kinds, numbers, optionals, verbs, words}

-- what is read stands there, and what is refused is bad where it says
abbrev pub Judged : {A : Type 0} → ℕ → List Wants → Rest → (A → Rest → Type 0) → Result A BadLine → Type 0
Judged at wanted ws F (Ok a) = F a ws
Judged at wanted ws F (Err bad) = IsBadFrom at wanted ws bad

-- a bad word behind a good one
bad_behind : {A : Type 0} (at : ℕ) (wanted : Wants) (others : List Wants) (bytes : List ℕ) (rest : Rest)
    (F : A → Rest → Type 0) (r : Result A BadLine) → MayBe wanted bytes →
    Judged (at + 1) others rest (λ a fields. F a (bytes ∷ fields)) r →
    Judged at (wanted ∷ others) (bytes ∷ rest) F r
bad_behind at wanted others bytes rest F (Ok a) may judged = judged
bad_behind at wanted others bytes rest F (Err bad) may judged = inr (bytes, rest, refl, may, judged)

-- a word that is read, and what comes behind it
judged_found : {A V : Type 0} (wanted : Wants) (parse : List ℕ → Option V) (Is : V → List ℕ → Type 0) →
    Reads wanted parse Is → (others : List Wants) (at : ℕ) (bytes : List ℕ) (rest : Rest) (F : A → Rest → Type 0)
    (f : V × Rest → Result A BadLine) (read : Option V) → parse bytes ≡ read →
    ((v : V) (bytes : List ℕ) (rest : Rest) → Is v bytes →
    Judged (at + 1) others rest (λ a fields. F a (bytes ∷ fields)) (f (v, rest))) →
    Judged at (wanted ∷ others) (bytes ∷ rest) F (found wanted at rest read >>= f)
judged_found wanted parse Is reads others at bytes rest F f (Some v) e later =
    let is = reads.sound bytes v e in
    bad_behind at wanted others bytes rest F (f (v, rest)) (reads.may bytes v is) (later v bytes rest is)
judged_found wanted parse Is reads others at bytes rest F f None e later = inl (refl, reads.none bytes rest e)

by_value : {A V : Type 0} (wanted : Wants) (parse : List ℕ → Option V) (Is : V → List ℕ → Type 0) →
    Reads wanted parse Is → (others : List Wants) (at : ℕ) (ws : Rest) (F : A → Rest → Type 0)
    (f : V × Rest → Result A BadLine) →
    ((v : V) (bytes : List ℕ) (rest : Rest) → Is v bytes →
    Judged (at + 1) others rest (λ a fields. F a (bytes ∷ fields)) (f (v, rest))) →
    Judged at (wanted ∷ others) ws F (value_at wanted parse at ws >>= f)
by_value wanted parse Is reads others at [] F f later = inl (refl, reads.missing)
by_value wanted parse Is reads others at (bytes ∷ rest) F f later =
    judged_found wanted parse Is reads others at bytes rest F f (parse bytes) refl later

-- the end of the line
by_end : {A : Type 0} (at : ℕ) (ws : Rest) (F : A → Rest → Type 0) (a : A) → F a [] →
    Judged at (wants.Nothing ∷ []) ws F (end_at at ws >>= λ _. Ok a)
by_end at [] F a is = is
by_end at (bytes ∷ rest) F a is = inl (refl, λ e. cc)

judged_map : {A B : Type 0} (at : ℕ) (wanted : List Wants) (ws : Rest) (F : A → Rest → Type 0) (G : B → Rest → Type 0)
    (g : A → B) (r : Result A BadLine) → ((a : A) → F a ws → G (g a) ws) → Judged at wanted ws F r →
    Judged at wanted ws G (r >>= λ a. Ok (g a))
judged_map at wanted ws F G g (Ok a) to is = to a is
judged_map at wanted ws F G g (Err bad) to is = is

-- a number alone
abbrev IsOne : ℕ → Rest → Type 0
IsOne n fields = Is64 n × (fields ≡ decimal n ∷ [])

one_judged : (ws : Rest) → Judged 3 (wants.Number ∷ wants.Nothing ∷ []) ws IsOne (one_in ws)
unfolding one_in number_at
one_judged ws =
    by_value wants.Number number_in SaysNumber numbers (wants.Nothing ∷ []) 3 ws IsOne (λ n. end_at 4 n.1 >>= λ _. Ok n.0)
    (λ n bytes rest is. by_end 4 rest (λ a fields. IsOne a (bytes ∷ fields)) n (is.0, ap (λ b. b ∷ []) is.1))

-- an operation, its code and its size
abbrev IsOutcome : ℕ × Code × ℕ → Rest → Type 0
IsOutcome of fields =
    Is64 of.0 × IsCode of.1 × Is64 of.2 × (fields ≡ decimal of.0 ∷ code_text of.1 ∷ decimal of.2 ∷ [])

outcome_judged : (ws : Rest) →
    Judged 3 (wants.Number ∷ wants.Letters ∷ wants.Number ∷ wants.Nothing ∷ []) ws IsOutcome (outcome_in ws)
unfolding outcome_in number_at code_at
outcome_judged ws =
    by_value wants.Number number_in SaysNumber numbers (wants.Letters ∷ wants.Number ∷ wants.Nothing ∷ []) 3 ws IsOutcome
    (λ op. value_at wants.Letters code_in 4 op.1 >>= λ code. value_at wants.Number number_in 5 code.1 >>=
    λ size. end_at 6 size.1 >>= λ _. Ok (op.0, code.0, size.0))
    (λ op a rest is_op.
    by_value wants.Letters code_in SaysCode coded (wants.Number ∷ wants.Nothing ∷ []) 4 rest
    (λ of fields. IsOutcome of (a ∷ fields))
    (λ code. value_at wants.Number number_in 5 code.1 >>= λ size. end_at 6 size.1 >>= λ _. Ok (op, code.0, size.0))
    (λ code b rest is_code.
    by_value wants.Number number_in SaysNumber numbers (wants.Nothing ∷ []) 5 rest (λ of fields. IsOutcome of (a ∷ b ∷ fields))
    (λ size. end_at 6 size.1 >>= λ _. Ok (op, code, size.0))
    (λ size d rest is_size.
    by_end 6 rest (λ of fields. IsOutcome of (a ∷ b ∷ d ∷ fields)) (op, code, size)
    (is_op.0, is_code.0, is_size.0, rw (is_op.1, is_code.1, is_size.1) refl))))

-- what happened, behind its verb
abbrev pub SaysDoing : Verb → Doing → Rest → Type 0
SaysDoing verb does fields = IsDoing does × (doing_words does ≡ verb_text verb ∷ fields)

call_judged : (ws : Rest) → Judged 3 (fields_of verb.Call) ws (SaysDoing verb.Call) (call_in ws)
unfolding call_in number_at word_at optional_at
call_judged ws =
    let F : Doing → Rest → Type 0 = SaysDoing verb.Call in
    by_value wants.Number number_in SaysNumber numbers
    (wants.Letters ∷ wants.Number ∷ wants.NumberOrDash ∷ wants.NumberOrDash ∷ wants.Nothing ∷ []) 3 ws F
    (λ op. value_at wants.Letters word_in 4 op.1 >>= λ word. value_at wants.Number number_in 5 word.1 >>=
    λ context. value_at wants.NumberOrDash optional_in 6 context.1 >>= λ strand. value_at wants.NumberOrDash
    optional_in 7 strand.1 >>= λ thing. end_at 8 thing.1 >>= λ _. Ok (doing.Call op.0 word.0 context.0 strand.0 thing.0))
    (λ op a rest is_op.
    by_value wants.Letters word_in SaysWord words
    (wants.Number ∷ wants.NumberOrDash ∷ wants.NumberOrDash ∷ wants.Nothing ∷ []) 4 rest (λ d fields. F d (a ∷ fields))
    (λ word. value_at wants.Number number_in 5 word.1 >>= λ context. value_at wants.NumberOrDash optional_in 6
    context.1 >>= λ strand. value_at wants.NumberOrDash optional_in 7 strand.1 >>= λ thing. end_at 8 thing.1
    >>= λ _. Ok (doing.Call op word.0 context.0 strand.0 thing.0))
    (λ word b rest is_word.
    by_value wants.Number number_in SaysNumber numbers (wants.NumberOrDash ∷ wants.NumberOrDash ∷ wants.Nothing ∷ []) 5 rest
    (λ d fields. F d (a ∷ b ∷ fields))
    (λ context. value_at wants.NumberOrDash optional_in 6 context.1 >>= λ strand. value_at wants.NumberOrDash
    optional_in 7 strand.1 >>= λ thing. end_at 8 thing.1 >>= λ _. Ok (doing.Call op word context.0 strand.0 thing.0))
    (λ context x rest is_context.
    by_value wants.NumberOrDash optional_in SaysOptional optionals (wants.NumberOrDash ∷ wants.Nothing ∷ []) 6 rest
    (λ d fields. F d (a ∷ b ∷ x ∷ fields))
    (λ strand. value_at wants.NumberOrDash optional_in 7 strand.1 >>= λ thing. end_at 8 thing.1 >>= λ _. Ok
    (doing.Call op word context strand.0 thing.0))
    (λ strand y rest is_strand.
    by_value wants.NumberOrDash optional_in SaysOptional optionals (wants.Nothing ∷ []) 7 rest
    (λ d fields. F d (a ∷ b ∷ x ∷ y ∷ fields))
    (λ thing. end_at 8 thing.1 >>= λ _. Ok (doing.Call op word context strand thing.0))
    (λ thing z rest is_thing.
    by_end 8 rest (λ d fields. F d (a ∷ b ∷ x ∷ y ∷ z ∷ fields)) (doing.Call op word context strand thing) (
      (is_op.0, is_word.0, is_context.0, is_strand.0, is_thing.0),
      rw (is_op.1, is_word.1, is_context.1, is_strand.1, is_thing.1) refl,
    ))))))

-- what happened of which only a number is said
of_one : (verb : Verb) (g : ℕ → Doing) (ws : Rest) → ((n : ℕ) → Is64 n → IsDoing (g n)) →
    ((n : ℕ) → doing_words (g n) ≡ verb_text verb ∷ decimal n ∷ []) →
    Judged 3 (wants.Number ∷ wants.Nothing ∷ []) ws (SaysDoing verb) (one_in ws >>= λ n. Ok (g n))
of_one verb g ws is says =
    judged_map 3 (wants.Number ∷ wants.Nothing ∷ []) ws IsOne (SaysDoing verb) g (one_in ws)
    (λ n one. (is n one.0, says n ∙ ap (λ fields. verb_text verb ∷ fields) (sym one.1))) (one_judged ws)

of_outcome : (verb : Verb) (g : ℕ × Code × ℕ → Doing) (ws : Rest) →
    ((of : ℕ × Code × ℕ) → Is64 of.0 → IsCode of.1 → Is64 of.2 → IsDoing (g of)) →
    ((of : ℕ × Code × ℕ) → doing_words (g of) ≡ verb_text verb ∷ decimal of.0 ∷ code_text of.1 ∷ decimal of.2 ∷ []) →
    Judged 3 (wants.Number ∷ wants.Letters ∷ wants.Number ∷ wants.Nothing ∷ []) ws (SaysDoing verb)
    (outcome_in ws >>= λ of. Ok (g of))
of_outcome verb g ws is says =
    judged_map 3 (wants.Number ∷ wants.Letters ∷ wants.Number ∷ wants.Nothing ∷ []) ws IsOutcome
    (SaysDoing verb) g (outcome_in ws)
    (λ of one. (is of one.0 one.1 one.2, says of ∙ ap (λ fields. verb_text verb ∷ fields) (sym one.3))) (outcome_judged ws)

doing_judged : (verb : Verb) (ws : Rest) → Judged 3 (fields_of verb) ws (SaysDoing verb) (doing_in verb ws)
unfolding doing_in
doing_judged verb.Call ws = call_judged ws
doing_judged verb.Back ws = of_one verb.Back (λ n. doing.Back n) ws (λ n h. h) (λ n. refl)
doing_judged verb.Done ws = of_outcome verb.Done (λ of. doing.Done of.0 of.1 of.2) ws (λ of a b c. (a, b, c)) (λ of. refl)
doing_judged verb.Begin ws = of_outcome verb.Begin (λ of. doing.Begin of.0 of.1 of.2) ws (λ of a b c. (a, b, c)) (λ of. refl)
doing_judged verb.End ws = of_one verb.End (λ n. doing.End n) ws (λ n h. h) (λ n. refl)
doing_judged verb.Throw ws = of_one verb.Throw (λ n. doing.Throw n) ws (λ n h. h) (λ n. refl)
doing_judged verb.Drop ws = of_one verb.Drop (λ n. doing.Drop n) ws (λ n h. h) (λ n. refl)
doing_judged verb.Claim ws = of_one verb.Claim (λ n. doing.Claim n) ws (λ n h. h) (λ n. refl)
doing_judged verb.Release ws = of_one verb.Release (λ n. doing.Release n) ws (λ n h. h) (λ n. refl)
doing_judged verb.Lock ws = of_one verb.Lock (λ n. doing.Lock n) ws (λ n h. h) (λ n. refl)
doing_judged verb.Unlock ws = of_one verb.Unlock (λ n. doing.Unlock n) ws (λ n h. h) (λ n. refl)
doing_judged verb.Mark ws = of_one verb.Mark (λ n. doing.Mark n) ws (λ n h. h) (λ n. refl)
doing_judged verb.After ws = of_one verb.After (λ n. doing.After n) ws (λ n h. h) (λ n. refl)
doing_judged verb.Cancel ws = of_one verb.Cancel (λ n. doing.Cancel n) ws (λ n h. h) (λ n. refl)
doing_judged verb.Work ws = of_one verb.Work (λ n. doing.Work n) ws (λ n h. h) (λ n. refl)
doing_judged verb.Stop ws = of_one verb.Stop (λ n. doing.Stop n) ws (λ n h. h) (λ n. refl)
doing_judged verb.Restart ws = of_one verb.Restart (λ n. doing.Restart n) ws (λ n h. h) (λ n. refl)

-- a whole line: what is read has these words, and what is refused is bad
abbrev pub JudgedEntry : Rest → Result PlainEntry BadLine → Type 0
JudgedEntry ws (Ok e) = IsEntry e × (join_with_byte 32 ws ≡ entry_text e)
JudgedEntry ws (Err bad) = IsBadLine ws bad

-- the text of a name
text_judged : (number : ℕ) (ws : Rest) (F : PlainEntry → Rest → Type 0) (g : List ℕ → PlainEntry) (test : Bool) →
    is_text (join_with_byte 32 ws) ≡ test →
    (is_text (join_with_byte 32 ws) ≡ true → F (g (join_with_byte 32 ws)) ws) →
    Judged 4 (wants.Text ∷ []) ws F
    ((if test then Ok (join_with_byte 32 ws) else Err (wrong 4 wants.Text)) >>= λ text. Ok (g text))
text_judged number ws F g true e is = is e
text_judged number ws F g false e is = inl (refl, λ yes. cc)

-- the words behind `name`
abbrev IsNamed : PlainEntry → Rest → Type 0
IsNamed e fields = IsEntry e × (join_with_byte 32 (codes "name" ∷ fields) ≡ entry_text e)

named : (kind_bytes number_bytes : List ℕ) (rest : Rest) → IsText (join_with_byte 32 rest) →
    join_with_byte 32 (codes "name" ∷ kind_bytes ∷ number_bytes ∷ rest)
    ≡ join_with_byte 32 (codes "name" ∷ kind_bytes ∷ number_bytes ∷ join_with_byte 32 rest ∷ [])
unfolding is_text
named kind_bytes number_bytes [] is = absurd (cc)
named kind_bytes number_bytes (word ∷ rest) is = refl

name_judged : (ws : Rest) → Judged 2 name_fields ws IsNamed (name_in ws)
unfolding name_in kind_at number_at
name_judged ws =
    by_value wants.Kind kind_in SaysKind kinds (wants.Number ∷ wants.Text ∷ []) 2 ws IsNamed
    (λ kind. value_at wants.Number number_in 3 kind.1 >>= λ number. text_at 4 number.1 >>= λ text. Ok (name kind.0 number.0 text))
    (λ kind a rest is_kind.
    by_value wants.Number number_in SaysNumber numbers (wants.Text ∷ []) 3 rest (λ e fields. IsNamed e (a ∷ fields))
    (λ number. text_at 4 number.1 >>= λ text. Ok (name kind number.0 text))
    (λ number b rest is_number.
    text_judged number rest (λ e fields. IsNamed e (a ∷ b ∷ fields)) (λ text. name kind number text)
    (is_text (join_with_byte 32 rest)) refl
    (λ is. (
      (is_number.0, is),
      named a b rest is
          ∙ ap (λ w. join_with_byte 32 (codes "name" ∷ w ∷ b ∷ join_with_byte 32 rest ∷ [])) is_kind
          ∙ ap (λ w. join_with_byte 32 (codes "name" ∷ kind_text kind ∷ w ∷ join_with_byte 32 rest ∷ [])) is_number.1,
    ))))

-- the words behind a thread
abbrev JudgedRest : Rest → (PlainEntry → Rest → Type 0) → Result PlainEntry BadLine → Type 0
JudgedRest ws F (Ok e) = F e ws
JudgedRest ws F (Err bad) =
    IsBadFrom 2 (wants.Verb ∷ []) ws bad
    ⊎ ((verb : Verb) × (fields : Rest) × (ws ≡ verb_text verb ∷ fields) × IsBadFrom 3 (fields_of verb) fields bad)

behind_verb : (thread : ℕ) (v : Verb) (bytes : List ℕ) (rest : Rest) (F : PlainEntry → Rest → Type 0) (r : Result Doing BadLine) →
    bytes ≡ verb_text v → Judged 3 (fields_of v) rest (SaysDoing v) r →
    ((does : Doing) → SaysDoing v does rest → F (line (record { thread = thread; does = does })) (bytes ∷ rest)) →
    JudgedRest (bytes ∷ rest) F (r >>= λ does. Ok (line (record { thread = thread; does = does })))
behind_verb thread v bytes rest F (Ok does) same judged is = is does judged
behind_verb thread v bytes rest F (Err bad) same judged is = inr (v, rest, ap (λ b. b ∷ rest) same, judged)

abbrev IsLined : ℕ → PlainEntry → Rest → Type 0
IsLined thread e fields = IsEntry e × (join_with_byte 32 (decimal thread ∷ fields) ≡ entry_text e)

found_verb : (thread : ℕ) → Is64 thread → (bytes : List ℕ) (rest : Rest) (read : Option Verb) → verb_in bytes ≡ read →
    JudgedRest (bytes ∷ rest) (IsLined thread)
    (found wants.Verb 2 rest read >>= λ said. doing_in said.0 said.1 >>= λ does. Ok
    (line (record { thread = thread; does = does })))
found_verb thread fits bytes rest (Some v) e =
    let same : bytes ≡ verb_text v = verbs.sound bytes v e in
    behind_verb thread v bytes rest (IsLined thread) (doing_in v rest) same (doing_judged v rest)
    (λ does says. ((fits, says.0), ap (λ ws. join_with_byte 32 (decimal thread ∷ ws)) (ap (λ b. b ∷ rest) same ∙ sym says.1)))
found_verb thread fits bytes rest None e = inl (inl (refl, verbs.none bytes rest e))

line_judged : (thread : ℕ) → Is64 thread → (ws : Rest) → JudgedRest ws (IsLined thread) (line_in thread ws)
unfolding line_in verb_at
line_judged thread fits [] = inl (inl (refl, verbs.missing))
line_judged thread fits (bytes ∷ rest) = found_verb thread fits bytes rest (verb_in bytes) refl

named_line : (bytes : List ℕ) (rest : Rest) (r : Result PlainEntry BadLine) → bytes ≡ codes "name" →
    Judged 2 name_fields rest IsNamed r → JudgedEntry (bytes ∷ rest) r
named_line bytes rest (Ok e) same judged = (judged.0, ap (λ b. join_with_byte 32 (b ∷ rest)) same ∙ judged.1)
named_line bytes rest (Err bad) same judged = inr (inl (rest, ap (λ b. b ∷ rest) same, judged))

threaded : (thread : ℕ) (bytes : List ℕ) (rest : Rest) (r : Result PlainEntry BadLine) → SaysNumber thread bytes →
    JudgedRest rest (IsLined thread) r → JudgedEntry (bytes ∷ rest) r
threaded thread bytes rest (Ok e) says judged = (judged.0, ap (λ b. join_with_byte 32 (b ∷ rest)) says.1 ∙ judged.1)
threaded thread bytes rest (Err bad) says judged =
    inr (inr (bytes, rest, refl, (thread, says.0, says.1), judged))

found_thread : (bytes : List ℕ) (rest : Rest) (read : Option ℕ) → number_in bytes ≡ read → (bytes ≡ codes "name" → ⊥) →
    JudgedEntry (bytes ∷ rest) (found wants.Thread 1 rest read >>= λ thread. line_in thread.0 thread.1)
found_thread bytes rest (Some n) e other =
    let says : SaysNumber n bytes = numbers.sound bytes n e in
    threaded n bytes rest (line_in n rest) says (line_judged n says.0 rest)
found_thread bytes rest None e other =
    inl (inl (
      refl,
      λ stands. elim stands [
        | inl number ↦ numbers.none bytes rest e number
        | inr same ↦ other same
      ],
    ))

begun : (bytes : List ℕ) (rest : Rest) (test : Bool) → bytes_eq bytes (codes "name") ≡ test →
    JudgedEntry (bytes ∷ rest)
    (if test then name_in rest else (found wants.Thread 1 rest (number_in bytes) >>= λ thread. line_in thread.0 thread.1))
begun bytes rest true e =
    named_line bytes rest (name_in rest) ((bytes_eq-Decides bytes (codes "name")).0 e) (name_judged rest)
begun bytes rest false e =
    found_thread bytes rest (number_in bytes) refl
    (λ same. let yes : bytes_eq bytes (codes "name") ≡ true = (bytes_eq-Decides bytes (codes "name")).1 same in absurd (cc))

pub entry_judged : (ws : Rest) → JudgedEntry ws (entry_in ws)
unfolding entry_in
entry_judged [] = inl (inl (refl, λ h. h))
entry_judged (first ∷ rest) = begun first rest (bytes_eq first (codes "name")) refl

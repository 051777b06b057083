-- A line is read back into its event.
use Rattle.std.proofs.Common.{◌≡◌, ℕ, ◌<◌, ◌≤◌, ◌^◌, List, [], ◌∷◌, ◌++◌, Bool, true, false, cond, nat_lt, ◌&&◌, if◌then◌else◌, Option, None, Some, codes, refl, ap, sym, ◌∙◌, arith, append_assoc}
use Rattle.std.specs.Fmt.{decimal}
use Rattle.std.specs.List.{list_all}
use Rattle.std.specs.Str.{bytes_eq}
use Rattle.std.specs.Str.Parse.{AllDigits, digits_value}
use Rattle.std.proofs.lemmas.Bool.Decides.{nat_tests}
use Rattle.std.proofs.lemmas.Fmt.{decimal_is_IsNumeral, decimal_by_steps}
use Rattle.std.proofs.lemmas.List.Folds.{list_all-append}
use Rattle.asio_types.specs.declared.code.Code.{Code}
use Rattle.asio_types.specs.declared.code.Code.TheVariants as code
use Rattle.asio_types.specs.declared.event.Event.{Event}
use Rattle.asio_types.specs.declared.event.Event.TheVariants as event
use Rattle.history_book.specs.Trace.{space, line_end, line_of, word_of_code, trace_of, HasItsNumbers, AreEvents}

-- a byte of a word, which isn't a space or LF
abbrev is_of_word : ℕ → Bool
is_of_word byte = nat_lt 32 byte

-- the first word
abbrev word : List ℕ → List ℕ
word [] = []
word (byte ∷ bytes) = cond (is_of_word byte) (byte ∷ word bytes) []

-- what follows the first word and the one byte behind it
abbrev rest : List ℕ → List ℕ
rest [] = []
rest (byte ∷ bytes) = cond (is_of_word byte) (rest bytes) bytes

abbrev number : List ℕ → ℕ
number bytes = digits_value 10 (word bytes)

abbrev code_of : List ℕ → Code
code_of bytes =
    if bytes_eq bytes (codes "ok") then code.Ok
    else (if bytes_eq bytes (codes "aborted") then code.Aborted
    else (if bytes_eq bytes (codes "eof") then code.Eof
    else (if bytes_eq bytes (codes "not_found") then code.NotFound
    else (if bytes_eq bytes (codes "bad") then code.Bad
    else (if bytes_eq bytes (codes "broken") then code.Broken
    else code.Reset)))))

abbrev act_in_word : List ℕ → Option ℕ
act_in_word bytes = if bytes_eq bytes (codes "-") then None else Some (digits_value 10 bytes)

-- the event of a line that begins with this word, and what follows the line
abbrev event_by : List ℕ → List ℕ → Event × List ℕ
event_by first bytes =
    if bytes_eq first (codes "call") then (event.Call (number bytes), rest bytes)
    else (if bytes_eq first (codes "back") then (event.Back (number bytes), rest bytes)
    else (if bytes_eq first (codes "stop") then (event.Stop (act_in_word (word bytes)), rest bytes)
    else (if bytes_eq first (codes "begin") then (event.Begin (number bytes) (code_of (word (rest bytes))) (number (rest (rest bytes))), rest (rest (rest bytes)))
    else (if bytes_eq first (codes "end") then (event.End (number bytes) (number (rest bytes)), rest (rest bytes))
    else (if bytes_eq first (codes "take") then (event.Take (number bytes), rest bytes)
    else (if bytes_eq first (codes "done") then (event.Done (number bytes) (code_of (word (rest bytes))) (number (rest (rest bytes))), rest (rest (rest bytes)))
    else (if bytes_eq first (codes "tick") then (event.Tick (number bytes), rest bytes)
    else (if bytes_eq first (codes "last") then (event.Last, bytes)
    else (if bytes_eq first (codes "fault") then (event.Fault, bytes)
    else (if bytes_eq first (codes "ended") then (event.Ended, bytes)
    else (if bytes_eq first (codes "stopped") then (event.Stopped, bytes)
    else (if bytes_eq first (codes "polled") then (event.Polled, bytes)
    else (if bytes_eq first (codes "restart") then (event.Restart, bytes)
    else (event.Dropped (number bytes) (number (rest bytes)), rest (rest bytes)))))))))))))))

-- the event of the first line, and what follows the line
abbrev event_at : List ℕ → Option (Event × List ℕ)
event_at [] = None
event_at (byte ∷ bytes) = Some (event_by (word (byte ∷ bytes)) (rest (byte ∷ bytes)))

abbrev IsWord : List ℕ → Type 0
IsWord bytes = list_all is_of_word bytes ≡ true

and_left : (a b : Bool) → (a && b) ≡ true → a ≡ true
and_left true b h = refl
and_left false b h = h

and_right : (a b : Bool) → (a && b) ≡ true → b ≡ true
and_right true b h = h
and_right false b h = cc

-- a word ends at a space or LF
word_then : (bytes : List ℕ) (end : ℕ) (more : List ℕ) → IsWord bytes → end ≤ 32 → word (bytes ++ end ∷ more) ≡ bytes
word_then [] end more w h = grind (arith, nat_tests)
word_then (byte ∷ bytes) end more w h =
    ap (λ b. cond b (byte ∷ word (bytes ++ end ∷ more)) []) (and_left (is_of_word byte) (list_all is_of_word bytes) w)
    ∙ ap (λ ws. byte ∷ ws) (word_then bytes end more (and_right (is_of_word byte) (list_all is_of_word bytes) w) h)

rest_then : (bytes : List ℕ) (end : ℕ) (more : List ℕ) → IsWord bytes → end ≤ 32 → rest (bytes ++ end ∷ more) ≡ more
rest_then [] end more w h = grind (arith, nat_tests)
rest_then (byte ∷ bytes) end more w h =
    ap (λ b. cond b (rest (bytes ++ end ∷ more)) (bytes ++ end ∷ more)) (and_left (is_of_word byte) (list_all is_of_word bytes) w)
    ∙ rest_then bytes end more (and_right (is_of_word byte) (list_all is_of_word bytes) w) h

decimal-IsWord : (n : ℕ) → n < 2 ^ 64 → IsWord (decimal n)
decimal-IsWord n h =
    decimal_by_steps (λ m ds. IsWord ds) (λ m small. grind (arith, nat_tests))
    (λ m ds large w. grind (arith, nat_tests, list_all-append, w)) n h

value_back : (n : ℕ) → n < 2 ^ 64 → digits_value 10 (decimal n) ≡ n
value_back n h = (decimal_is_IsNumeral n h).1

code_back : (code : Code) → code_of (word_of_code code) ≡ code
code_back code.Ok = refl
code_back code.Aborted = refl
code_back code.Eof = refl
code_back code.NotFound = refl
code_back code.Bad = refl
code_back code.Broken = refl
code_back code.Reset = refl

code-IsWord : (code : Code) → IsWord (word_of_code code)
code-IsWord code.Ok = refl
code-IsWord code.Aborted = refl
code-IsWord code.Eof = refl
code-IsWord code.NotFound = refl
code-IsWord code.Bad = refl
code-IsWord code.Broken = refl
code-IsWord code.Reset = refl

-- what is read of one, two and three words after the first one
one_word : {A : Type 0} (f : List ℕ → List ℕ → A) (w more : List ℕ) → IsWord w →
    f (word (w ++ 10 ∷ more)) (rest (w ++ 10 ∷ more)) ≡ f w more
one_word f w more hw =
    ap (λ x. f x (rest (w ++ 10 ∷ more))) (word_then w 10 more hw (omega arith))
    ∙ ap (f w) (rest_then w 10 more hw (omega arith))

joined_two : (v w end more : List ℕ) → (((v ++ space) ++ w) ++ end) ++ more ≡ v ++ 32 ∷ (w ++ (end ++ more))
joined_two v w end more = simp append_assoc

two_words : {A : Type 0} (f : List ℕ → List ℕ → List ℕ → A) (v w more : List ℕ) (t : List ℕ) →
    t ≡ v ++ 32 ∷ (w ++ 10 ∷ more) → IsWord v → IsWord w → f (word t) (word (rest t)) (rest (rest t)) ≡ f v w more
two_words f v w more t whole hv hw =
    let left : rest t ≡ w ++ 10 ∷ more = ap rest whole ∙ rest_then v 32 (w ++ 10 ∷ more) hv (omega arith) in
    ap (λ x. f x (word (rest t)) (rest (rest t))) (ap word whole ∙ word_then v 32 (w ++ 10 ∷ more) hv (omega arith))
    ∙ ap (λ x. f v (word x) (rest x)) left
    ∙ one_word (f v) w more hw

three_words : {A : Type 0} (f : List ℕ → List ℕ → List ℕ → List ℕ → A) (u v w more : List ℕ) (t : List ℕ) →
    t ≡ u ++ 32 ∷ (v ++ 32 ∷ (w ++ 10 ∷ more)) → IsWord u → IsWord v → IsWord w →
    f (word t) (word (rest t)) (word (rest (rest t))) (rest (rest (rest t))) ≡ f u v w more
three_words f u v w more t whole hu hv hw =
    let left : rest t ≡ v ++ 32 ∷ (w ++ 10 ∷ more) =
    ap rest whole ∙ rest_then u 32 (v ++ 32 ∷ (w ++ 10 ∷ more)) hu (omega arith) in
    ap (λ x. f x (word (rest t)) (word (rest (rest t))) (rest (rest (rest t))))
    (ap word whole ∙ word_then u 32 (v ++ 32 ∷ (w ++ 10 ∷ more)) hu (omega arith))
    ∙ two_words (f u) v w more (rest t) left hv hw

joined_three : (u v w end more : List ℕ) →
    (((((u ++ space) ++ v) ++ space) ++ w) ++ end) ++ more ≡ u ++ 32 ∷ (v ++ 32 ∷ (w ++ (end ++ more)))
joined_three u v w end more = simp append_assoc

-- the same, where the words are numbers, and perhaps a code
one_number : {A : Type 0} (f : ℕ → List ℕ → A) (n : ℕ) (more : List ℕ) → n < 2 ^ 64
    → f (number ((decimal n ++ line_end) ++ more)) (rest ((decimal n ++ line_end) ++ more)) ≡ f n more
one_number f n more h =
    ap (λ t. f (number t) (rest t)) (append_assoc (decimal n) line_end more)
    ∙ one_word (λ v r. f (digits_value 10 v) r) (decimal n) more (decimal-IsWord n h)
    ∙ ap (λ x. f x more) (value_back n h)

two_numbers : {A : Type 0} (f : ℕ → ℕ → List ℕ → A) (n m : ℕ) (more : List ℕ) → n < 2 ^ 64 → m < 2 ^ 64
    → let t = (((decimal n ++ space) ++ decimal m) ++ line_end) ++ more in
    f (number t) (number (rest t)) (rest (rest t)) ≡ f n m more
two_numbers f n m more hn hm =
    two_words (λ v w r. f (digits_value 10 v) (digits_value 10 w) r) (decimal n) (decimal m) more _
    (joined_two (decimal n) (decimal m) line_end more) (decimal-IsWord n hn) (decimal-IsWord m hm)
    ∙ ap (λ x. f x (digits_value 10 (decimal m)) more) (value_back n hn)
    ∙ ap (λ x. f n x more) (value_back m hm)

outcome : {A : Type 0} (f : ℕ → Code → ℕ → List ℕ → A) (n : ℕ) (code : Code) (m : ℕ) (more : List ℕ) → n < 2 ^ 64 →
    m < 2 ^ 64 → let t =
    (((((decimal n ++ space) ++ word_of_code code) ++ space) ++ decimal m) ++ line_end)
    ++ more in f (number t) (code_of (word (rest t))) (number (rest (rest t))) (rest (rest (rest t)))
    ≡ f n code m more
outcome f n code m more hn hm =
    three_words (λ u v w r. f (digits_value 10 u) (code_of v) (digits_value 10 w) r) (decimal n) (word_of_code code)
    (decimal m) more _ (joined_three (decimal n) (word_of_code code) (decimal m) line_end more) (decimal-IsWord n hn)
    (code-IsWord code) (decimal-IsWord m hm)
    ∙ ap (λ x. f x (code_of (word_of_code code)) (digits_value 10 (decimal m)) more) (value_back n hn)
    ∙ ap (λ x. f n x (digits_value 10 (decimal m)) more) (code_back code)
    ∙ ap (λ x. f n code x more) (value_back m hm)

-- digits aren't the word for no act
no_dash : (digits : List ℕ) → AllDigits 10 digits → bytes_eq digits (codes "-") ≡ false
no_dash [] h = refl
no_dash (digit ∷ digits) h = grind (arith, nat_tests)

act_back : (n : ℕ) → n < 2 ^ 64 → act_in_word (decimal n) ≡ Some n
act_back n h =
    ap (λ b. cond b None (Some (digits_value 10 (decimal n)))) (no_dash (decimal n) (decimal_is_IsNumeral n h).0.1)
    ∙ ap (λ x. Some x) (value_back n h)

one_act : {A : Type 0} (f : Option ℕ → List ℕ → A) (n : ℕ) (more : List ℕ) → n < 2 ^ 64
    → f (act_in_word (word ((decimal n ++ line_end) ++ more))) (rest ((decimal n ++ line_end) ++ more)) ≡ f (Some n) more
one_act f n more h =
    ap (λ t. f (act_in_word (word t)) (rest t)) (append_assoc (decimal n) line_end more)
    ∙ one_word (λ v r. f (act_in_word v) r) (decimal n) more (decimal-IsWord n h)
    ∙ ap (λ x. f x more) (act_back n h)

wide : (n : ℕ) → n < 2 ^ 32 → n < 2 ^ 64
wide n h = omega arith

-- a line is read back
line_back : (event : Event) (more : List ℕ) → HasItsNumbers event →
    event_at (line_of event ++ more) ≡ Some (event, more)
line_back (event.Call act) more h = one_number (λ n r. Some (event.Call n, r)) act more (wide act h)
line_back (event.Back act) more h = one_number (λ n r. Some (event.Back n, r)) act more (wide act h)
line_back (event.Stop (Some act)) more h = one_act (λ a r. Some (event.Stop a, r)) act more (wide act h)
line_back (event.Stop None) more h = refl
line_back (event.Begin op code size) more h =
    outcome (λ n c m r. Some (event.Begin n c m, r)) op code size more (wide op h.0) (wide size h.1)
line_back (event.End op mark) more h = two_numbers (λ n m r. Some (event.End n m, r)) op mark more (wide op h.0) h.1
line_back (event.Take act) more h = one_number (λ n r. Some (event.Take n, r)) act more (wide act h)
line_back (event.Done op code size) more h =
    outcome (λ n c m r. Some (event.Done n c m, r)) op code size more (wide op h.0) (wide size h.1)
line_back (event.Tick now) more h = one_number (λ n r. Some (event.Tick n, r)) now more h
line_back event.Last more h = refl
line_back event.Fault more h = refl
line_back event.Ended more h = refl
line_back event.Stopped more h = refl
line_back event.Polled more h = refl
line_back event.Restart more h = refl
line_back (event.Dropped op mark) more h =
    two_numbers (λ n m r. Some (event.Dropped n m, r)) op mark more (wide op h.0) h.1

none_is_none : {A : Type 0} (x : A) → None ≡ Some x → ⊥
none_is_none x h = cc

-- traces that agree are of the same events
pub same_events : (first second : List Event) → AreEvents first → AreEvents second → trace_of first ≡ trace_of second →
    first ≡ second
same_events [] [] ha hb h = refl
same_events [] (e ∷ es) ha hb h =
    absurd (none_is_none (e, trace_of es) (ap event_at h ∙ line_back e (trace_of es) hb.0))
same_events (e ∷ es) [] ha hb h =
    absurd (none_is_none (e, trace_of es) (ap event_at (sym h) ∙ line_back e (trace_of es) ha.0))
same_events (e ∷ es) (f ∷ fs) ha hb h =
    let k : ◌≡◌ {A = Option (Event × List ℕ)} (Some (e, trace_of es)) (Some (f, trace_of fs)) =
    sym (line_back e (trace_of es) ha.0) ∙ ap event_at h ∙ line_back f (trace_of fs) hb.0 in
    let p : ◌≡◌ {A = Event × List ℕ} (e, trace_of es) (f, trace_of fs) = cc in
    let q : es ≡ fs = same_events es fs ha.1 hb.1 (ap (λ x. x.1) p) in
    ap (λ x. x ∷ es) (ap (λ x. x.0) p) ∙ ap (λ xs. f ∷ xs) q

-- What is read of a line is what the line says, and every line of an event is read.
use Rattle.std.proofs.Common.{◌≡◌, ℕ, ◌+◌, ◌<◌, ◌^◌, ◌%◌, Bool, true, false, cond, List, [], ◌∷◌, ◌++◌, Option, Some, None, codes, refl, sym, ap, subst, ◌∙◌, arith, append_assoc, if◌then◌else◌}
use Rattle.std.specs.Fmt.{decimal}
use Rattle.std.specs.Str.{bytes_eq}
use Rattle.std.specs.Str.Parse.{AllDigits}
use Rattle.std.proofs.lemmas.Bool.Decides.{nat_tests}
use Rattle.std.proofs.lemmas.Fmt.{decimal_is_IsNumeral, decimal_by_steps}
use Rattle.std.proofs.lemmas.Slice.Eq.{bytes_eq-Decides}
use Rattle.asio_types.specs.declared.code.Code.{Code}
use Rattle.asio_types.specs.declared.code.Code.TheVariants as code
use Rattle.asio_types.specs.declared.event.Event.{Event}
use Rattle.asio_types.specs.declared.event.Event.TheVariants as event
use Rattle.history_book.specs.Trace.{space, line_end, line_of, word_of_code, HasItsNumbers}
use Rattle.trace_check.specs.EventLine.{code_in, mark_in, outcome_in, stop_event, bare_event, event_with, event_in, line_event}
use Rattle.trace_check.specs.Number.{number}
use Rattle.trace_check.specs.Split.{◌>>=◌, split_once, byte_count}
use Rattle.trace_check.proofs.NumberLemmas.{number_is, number_spelled}
use Rattle.trace_check.proofs.SplitLemmas.{split_is, split_first, byte_count-append}

-- what holds of both outcomes of a test holds of the choice
by_test : {A : Type 0} (P : A → Type 0) (test : Bool) (first second : A) → (test ≡ true → P first) → P second →
    P (cond test first second)
by_test P true first second passed failed = passed refl
by_test P false first second passed failed = failed

by_word : {A : Type 0} (P : A → Type 0) (word name : List ℕ) (first second : A) → (word ≡ name → P first) → P second →
    P (if bytes_eq word name then first else second)
by_word P word name first second passed failed =
    by_test P (bytes_eq word name) first second (λ e. passed ((bytes_eq-Decides word name).0 e)) failed

by_part : {A B : Type 0} (P : Option B → Type 0) (part : Option A) (f : A → Option B) →
    ((x : A) → part ≡ Some x → P (f x)) → P None → P (part >>= f)
by_part P (Some x) f given missing = given x refl
by_part P None f given missing = missing

-- a number
by_number : {B : Type 0} (P : Option B → Type 0) (bound : ℕ) (bytes : List ℕ) (f : ℕ → Option B) →
    ((n : ℕ) → n < bound → bytes ≡ decimal n → P (f n)) → P None → P (number bound bytes >>= f)
by_number P bound bytes f given missing =
    by_part P (number bound bytes) f (λ n e. let is = number_is bound bytes n e in given n is.below is.text) missing

-- a code word
by_code : (P : Option Code → Type 0) (bytes : List ℕ) → ((c : Code) → bytes ≡ word_of_code c → P (Some c)) → P None →
    P (code_in bytes)
unfolding code_in
by_code P bytes given missing =
    by_word P bytes _ _ _ (given code.Ok)
    (by_word P bytes _ _ _ (given code.Aborted)
    (by_word P bytes _ _ _ (given code.Eof)
    (by_word P bytes _ _ _ (given code.NotFound)
    (by_word P bytes _ _ _ (given code.Bad)
    (by_word P bytes _ _ _ (given code.Broken)
    (by_word P bytes _ _ _ (given code.Reset) missing))))))

joined_two : (v w : List ℕ) → v ++ 32 ∷ w ≡ (v ++ space) ++ w
joined_two v w = simp append_assoc

joined_three : (u v w : List ℕ) → u ++ 32 ∷ (v ++ 32 ∷ w) ≡ (((u ++ space) ++ v) ++ space) ++ w
joined_three u v w = simp append_assoc

-- an operation and its mark
abbrev mark_text : ℕ → ℕ → List ℕ
mark_text op mark = (decimal op ++ space) ++ decimal mark

by_mark : (P : Option (ℕ × ℕ) → Type 0) (bytes : List ℕ) →
    ((op mark : ℕ) → op < 2 ^ 32 → mark < 2 ^ 64 → bytes ≡ mark_text op mark → P (Some (op, mark))) → P None →
    P (mark_in bytes)
unfolding mark_in
by_mark P bytes given missing =
    by_part P (split_once 32 bytes) _
    (λ parts cut. by_number P (2 ^ 32) parts.0 _
    (λ op below first. by_number P (2 ^ 64) parts.1 _
    (λ mark fits second. given op mark below fits
    (split_is 32 bytes parts cut ∙ ap (λ v. v ++ 32 ∷ parts.1) first ∙ ap (λ w. decimal op ++ 32 ∷ w) second ∙ joined_two (decimal op) (decimal mark)))
    missing) missing) missing

-- an operation, its code and its size
abbrev outcome_text : ℕ → Code → ℕ → List ℕ
outcome_text op c size = (((decimal op ++ space) ++ word_of_code c) ++ space) ++ decimal size

by_outcome : (P : Option (ℕ × Code × ℕ) → Type 0) (bytes : List ℕ) →
    ((op : ℕ) (c : Code) (size : ℕ) → op < 2 ^ 32 → size < 2 ^ 32 → bytes ≡ outcome_text op c size →
    P (Some (op, c, size))) → P None → P (outcome_in bytes)
unfolding outcome_in
by_outcome P bytes given missing =
    by_part P (split_once 32 bytes) _
    (λ parts cut. by_part P (split_once 32 parts.1) _
    (λ fields cut_again. by_number P (2 ^ 32) parts.0 _
    (λ op below first. by_code (λ o. P (o >>= λ c. number (2 ^ 32) fields.1 >>= λ size. Some (op, c, size))) fields.0
    (λ c second. by_number P (2 ^ 32) fields.1 _
    (λ size fits third. given op c size below fits
    (split_is 32 bytes parts cut ∙ ap (λ u. u ++ 32 ∷ parts.1) first
    ∙ ap (λ rest. decimal op ++ 32 ∷ rest) (split_is 32 parts.1 fields cut_again ∙ ap (λ v. v ++ 32 ∷ fields.1) second
    ∙ ap (λ w. word_of_code c ++ 32 ∷ w) third)
    ∙ joined_three (decimal op) (word_of_code c) (decimal size)))
    missing) missing) missing) missing) missing

-- what is read of a line is what it says
abbrev SaysItsEvent : List ℕ → Option Event → Type 0
SaysItsEvent line None = Unit {0}
SaysItsEvent line (Some event) = HasItsNumbers event × (line ++ line_end ≡ line_of event)

-- a word and the fields behind it
spelled : (word name fields text : List ℕ) → word ≡ name → fields ≡ text →
    (word ++ 32 ∷ fields) ++ line_end ≡ (name ++ 32 ∷ text) ++ line_end
spelled word name fields text first second =
    ap (λ w. (w ++ 32 ∷ fields) ++ line_end) first ∙ ap (λ f. (name ++ 32 ∷ f) ++ line_end) second

bare_says : (word : List ℕ) → SaysItsEvent word (bare_event word)
unfolding bare_event
bare_says word =
    by_word (SaysItsEvent word) word _ _ _ (λ is. (tt, ap (λ w. w ++ line_end) is))
    (by_word (SaysItsEvent word) word _ _ _ (λ is. (tt, ap (λ w. w ++ line_end) is))
    (by_word (SaysItsEvent word) word _ _ _ (λ is. (tt, ap (λ w. w ++ line_end) is))
    (by_word (SaysItsEvent word) word _ _ _ (λ is. (tt, ap (λ w. w ++ line_end) is))
    (by_word (SaysItsEvent word) word _ _ _ (λ is. (tt, ap (λ w. w ++ line_end) is))
    (by_word (SaysItsEvent word) word _ _ _ (λ is. (tt, ap (λ w. w ++ line_end) is)) tt)))))

stop_says : (word fields : List ℕ) → word ≡ codes "stop" → SaysItsEvent (word ++ 32 ∷ fields) (stop_event fields)
unfolding stop_event
stop_says word fields is =
    let P = λ (o : Option Event). SaysItsEvent (word ++ 32 ∷ fields) o in
    by_word P fields (codes "-") _ _ (λ dash. (tt, spelled word (codes "stop") fields (codes "-") is dash))
    (by_number P (2 ^ 32) fields _ (λ act fits text. (fits, spelled word (codes "stop") fields (decimal act) is text)) tt)

with_says : (word fields : List ℕ) → SaysItsEvent (word ++ 32 ∷ fields) (event_with word fields)
unfolding event_with
with_says word fields =
    let P = λ (o : Option Event). SaysItsEvent (word ++ 32 ∷ fields) o in
    by_word P word (codes "call") _ _
    (λ is. by_number P (2 ^ 32) fields _ (λ act fits text. (fits, spelled word _ fields _ is text)) tt)
    (by_word P word (codes "back") _ _
    (λ is. by_number P (2 ^ 32) fields _ (λ act fits text. (fits, spelled word _ fields _ is text)) tt)
    (by_word P word (codes "stop") _ _ (stop_says word fields) (by_word P word (codes "begin") _ _
    (λ is.
    by_outcome (λ o. P (o >>= λ of. Some (event.Begin of.0 of.1 of.2))) fields
    (λ op c size below fits text. ((below, fits), spelled word _ fields _ is text)) tt)
    (by_word P word (codes "end") _ _
    (λ is.
    by_mark (λ o. P (o >>= λ of. Some (event.End of.0 of.1))) fields
    (λ op mark below fits text. ((below, fits), spelled word _ fields _ is text)) tt)
    (by_word P word (codes "take") _ _
    (λ is. by_number P (2 ^ 32) fields _ (λ act fits text. (fits, spelled word _ fields _ is text)) tt)
    (by_word P word (codes "done") _ _
    (λ is.
    by_outcome (λ o. P (o >>= λ of. Some (event.Done of.0 of.1 of.2))) fields
    (λ op c size below fits text. ((below, fits), spelled word _ fields _ is text)) tt)
    (by_word P word (codes "tick") _ _
    (λ is. by_number P (2 ^ 64) fields _ (λ now fits text. (fits, spelled word _ fields _ is text)) tt)
    (by_word P word (codes "drop") _ _
    (λ is.
    by_mark (λ o. P (o >>= λ of. Some (event.Dropped of.0 of.1))) fields
    (λ op mark below fits text. ((below, fits), spelled word _ fields _ is text)) tt) tt))))))))

line_says : (line : List ℕ) (cut : Option (List ℕ × List ℕ)) → split_once 32 line ≡ cut →
    SaysItsEvent line (line_event line cut)
line_says line (Some parts) e =
    subst (λ l. SaysItsEvent l (event_with parts.0 parts.1)) (sym (split_is 32 line parts e)) (with_says parts.0 parts.1)
line_says line None e = bare_says line

pub event_is : (line : List ℕ) (e : Event) → event_in line ≡ Some e → HasItsNumbers e × (line ++ line_end ≡ line_of e)
unfolding event_in
event_is line e read = subst (SaysItsEvent line) read (line_says line (split_once 32 line) refl)

-- the line of an event, without its LF
abbrev pub text_of : Event → List ℕ
text_of (event.Call act) = codes "call " ++ decimal act
text_of (event.Back act) = codes "back " ++ decimal act
text_of (event.Stop (Some act)) = codes "stop " ++ decimal act
text_of (event.Stop None) = codes "stop -"
text_of (event.Begin op code size) = codes "begin " ++ outcome_text op code size
text_of (event.End op mark) = codes "end " ++ mark_text op mark
text_of (event.Take act) = codes "take " ++ decimal act
text_of (event.Done op code size) = codes "done " ++ outcome_text op code size
text_of (event.Tick now) = codes "tick " ++ decimal now
text_of event.Last = codes "last"
text_of event.Fault = codes "fault"
text_of event.Ended = codes "ended"
text_of event.Stopped = codes "stopped"
text_of event.Polled = codes "polled"
text_of event.Restart = codes "restart"
text_of (event.Dropped op mark) = codes "drop " ++ mark_text op mark

pub line_is : (e : Event) → line_of e ≡ text_of e ++ line_end
line_is (event.Call act) = refl
line_is (event.Back act) = refl
line_is (event.Stop (Some act)) = refl
line_is (event.Stop None) = refl
line_is (event.Begin op code size) = refl
line_is (event.End op mark) = refl
line_is (event.Take act) = refl
line_is (event.Done op code size) = refl
line_is (event.Tick now) = refl
line_is event.Last = refl
line_is event.Fault = refl
line_is event.Ended = refl
line_is event.Stopped = refl
line_is event.Polled = refl
line_is event.Restart = refl
line_is (event.Dropped op mark) = refl

wide : (n : ℕ) → n < 2 ^ 32 → n < 2 ^ 64
wide n fits = omega arith

-- digits are neither LF nor a space
digits_lack : (separator n : ℕ) → separator < 48 → n < 2 ^ 64 → byte_count separator (decimal n) ≡ 0
digits_lack separator n low fits =
    decimal_by_steps (λ m ds. byte_count separator ds ≡ 0) (λ m small. grind (arith, nat_tests))
    (λ m ds large none. grind (arith, nat_tests, byte_count-append separator ds ((48 + m % 10) ∷ []), none)) n fits

code_lacks_space : (c : Code) → byte_count 32 (word_of_code c) ≡ 0
code_lacks_space code.Ok = refl
code_lacks_space code.Aborted = refl
code_lacks_space code.Eof = refl
code_lacks_space code.NotFound = refl
code_lacks_space code.Bad = refl
code_lacks_space code.Broken = refl
code_lacks_space code.Reset = refl

code_lacks_end : (c : Code) → byte_count 10 (word_of_code c) ≡ 0
code_lacks_end code.Ok = refl
code_lacks_end code.Aborted = refl
code_lacks_end code.Eof = refl
code_lacks_end code.NotFound = refl
code_lacks_end code.Bad = refl
code_lacks_end code.Broken = refl
code_lacks_end code.Reset = refl

mark_lacks_end : (op mark : ℕ) → op < 2 ^ 32 → mark < 2 ^ 64 → byte_count 10 (mark_text op mark) ≡ 0
mark_lacks_end op mark below fits =
    byte_count-append 10 (decimal op ++ space) (decimal mark)
    ∙ omega (
      arith,
      byte_count-append 10 (decimal op) space,
      digits_lack 10 op (omega arith) (wide op below),
      digits_lack 10 mark (omega arith) fits,
    )

outcome_lacks_end : (op : ℕ) (c : Code) (size : ℕ) → op < 2 ^ 32 → size < 2 ^ 32 →
    byte_count 10 (outcome_text op c size) ≡ 0
outcome_lacks_end op c size below fits =
    let front = decimal op ++ space in
    omega (
      arith,
      byte_count-append 10 ((front ++ word_of_code c) ++ space) (decimal size),
      byte_count-append 10 (front ++ word_of_code c) space,
      byte_count-append 10 front (word_of_code c),
      byte_count-append 10 (decimal op) space,
      digits_lack 10 op (omega arith) (wide op below),
      code_lacks_end c,
      digits_lack 10 size (omega arith) (wide size fits),
    )

-- one line ends where the event's does
pub line_lacks_end : (e : Event) → HasItsNumbers e → byte_count 10 (text_of e) ≡ 0
line_lacks_end (event.Call act) h = digits_lack 10 act (omega arith) (wide act h)
line_lacks_end (event.Back act) h = digits_lack 10 act (omega arith) (wide act h)
line_lacks_end (event.Stop (Some act)) h = digits_lack 10 act (omega arith) (wide act h)
line_lacks_end (event.Stop None) h = refl
line_lacks_end (event.Begin op code size) h = outcome_lacks_end op code size h.0 h.1
line_lacks_end (event.End op mark) h = mark_lacks_end op mark h.0 h.1
line_lacks_end (event.Take act) h = digits_lack 10 act (omega arith) (wide act h)
line_lacks_end (event.Done op code size) h = outcome_lacks_end op code size h.0 h.1
line_lacks_end (event.Tick now) h = digits_lack 10 now (omega arith) h
line_lacks_end event.Last h = refl
line_lacks_end event.Fault h = refl
line_lacks_end event.Ended h = refl
line_lacks_end event.Stopped h = refl
line_lacks_end event.Polled h = refl
line_lacks_end event.Restart h = refl
line_lacks_end (event.Dropped op mark) h = mark_lacks_end op mark h.0 h.1

-- the parts of a line are read
code_back : (c : Code) → code_in (word_of_code c) ≡ Some c
unfolding code_in
code_back code.Ok = refl
code_back code.Aborted = refl
code_back code.Eof = refl
code_back code.NotFound = refl
code_back code.Bad = refl
code_back code.Broken = refl
code_back code.Reset = refl

act_back : {B : Type 0} (f : ℕ → Option B) (n : ℕ) → n < 2 ^ 32 → (number (2 ^ 32) (decimal n) >>= f) ≡ f n
act_back f n fits = ap (λ o. o >>= f) (number_spelled (2 ^ 32) (decimal n) n (wide n fits) fits refl)

mark_back : (op mark : ℕ) → op < 2 ^ 32 → mark < 2 ^ 64 → mark_in (mark_text op mark) ≡ Some (op, mark)
unfolding mark_in
mark_back op mark below fits =
    let cut : split_once 32 (mark_text op mark) ≡ Some (decimal op, decimal mark) =
    ap (split_once 32) (sym (joined_two (decimal op) (decimal mark)))
    ∙ split_first 32 (decimal op) (decimal mark) (digits_lack 32 op (omega arith) (wide op below)) in
    ap (λ o. o >>= λ parts. number (2 ^ 32) parts.0 >>= λ first. number (2 ^ 64) parts.1 >>= λ second. Some (first, second)) cut
    ∙ act_back (λ first. number (2 ^ 64) (decimal mark) >>= λ second. Some (first, second)) op below
    ∙ ap (λ o. o >>= λ second. Some (op, second)) (number_spelled (2 ^ 64) (decimal mark) mark fits fits refl)

outcome_back : (op : ℕ) (c : Code) (size : ℕ) → op < 2 ^ 32 → size < 2 ^ 32 →
    outcome_in (outcome_text op c size) ≡ Some (op, c, size)
unfolding outcome_in
outcome_back op c size below fits =
    let fields : List ℕ = word_of_code c ++ 32 ∷ decimal size in
    let cut : split_once 32 (outcome_text op c size) ≡ Some (decimal op, fields) =
    ap (split_once 32) (sym (joined_three (decimal op) (word_of_code c) (decimal size)))
    ∙ split_first 32 (decimal op) fields (digits_lack 32 op (omega arith) (wide op below)) in
    ap (λ o.
    o >>= λ parts.
    split_once 32 parts.1 >>= λ rest.
    number (2 ^ 32) parts.0 >>= λ first.
    code_in rest.0 >>= λ second. number (2 ^ 32) rest.1 >>= λ third. Some (first, second, third)) cut
    ∙ ap (λ o.
    o >>= λ rest.
    number (2 ^ 32) (decimal op) >>= λ first.
    code_in rest.0 >>= λ second. number (2 ^ 32) rest.1 >>= λ third. Some (first, second, third))
    (split_first 32 (word_of_code c) (decimal size) (code_lacks_space c))
    ∙ act_back
    (λ first.
    code_in (word_of_code c) >>= λ second. number (2 ^ 32) (decimal size) >>= λ third. Some (first, second, third))
    op below
    ∙ ap (λ o. o >>= λ second. number (2 ^ 32) (decimal size) >>= λ third. Some (op, second, third)) (code_back c)
    ∙ act_back (λ third. Some (op, c, third)) size fits

-- digits aren't the word for no act
no_dash : (digits : List ℕ) → AllDigits 10 digits → bytes_eq digits (codes "-") ≡ false
no_dash [] h = refl
no_dash (digit ∷ digits) h = grind (arith, nat_tests)

stop_back : (act : ℕ) → act < 2 ^ 32 → stop_event (decimal act) ≡ Some (event.Stop (Some act))
unfolding stop_event
stop_back act fits =
    ap (λ test. cond test (Some (event.Stop None)) (number (2 ^ 32) (decimal act) >>= λ a. Some (event.Stop (Some a))))
    (no_dash (decimal act) (decimal_is_IsNumeral act (wide act fits)).0.1)
    ∙ act_back (λ a. Some (event.Stop (Some a))) act fits

stop_none : stop_event (codes "-") ≡ Some (event.Stop None)
unfolding stop_event
stop_none = refl

-- the line of an event is read
pub event_back : (e : Event) → HasItsNumbers e → event_in (text_of e) ≡ Some e
unfolding event_in event_with bare_event
event_back (event.Call act) h = act_back (λ n. Some (event.Call n)) act h
event_back (event.Back act) h = act_back (λ n. Some (event.Back n)) act h
event_back (event.Stop (Some act)) h = stop_back act h
event_back (event.Stop None) h = stop_none
event_back (event.Begin op code size) h =
    ap (λ o. o >>= λ of. Some (event.Begin of.0 of.1 of.2)) (outcome_back op code size h.0 h.1)
event_back (event.End op mark) h = ap (λ o. o >>= λ of. Some (event.End of.0 of.1)) (mark_back op mark h.0 h.1)
event_back (event.Take act) h = act_back (λ n. Some (event.Take n)) act h
event_back (event.Done op code size) h =
    ap (λ o. o >>= λ of. Some (event.Done of.0 of.1 of.2)) (outcome_back op code size h.0 h.1)
event_back (event.Tick now) h =
    ap (λ o. o >>= λ n. Some (event.Tick n)) (number_spelled (2 ^ 64) (decimal now) now h h refl)
event_back event.Last h = refl
event_back event.Fault h = refl
event_back event.Ended h = refl
event_back event.Stopped h = refl
event_back event.Polled h = refl
event_back event.Restart h = refl
event_back (event.Dropped op mark) h = ap (λ o. o >>= λ of. Some (event.Dropped of.0 of.1)) (mark_back op mark h.0 h.1)

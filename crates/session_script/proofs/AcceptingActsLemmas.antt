-- Acts that are spelled and within the limits are read.
use Rattle.std.proofs.Common.{◌≡◌, ℕ, zero, suc, ◌<◌, ◌≤◌, Bool, true, false, not, cond, ◌||◌, List, length, Option, Ok, refl, sym, ap, subst, ◌∙◌, inl, inr, arith}
use Rattle.std.specs.Prelude.{nat_eq, is_none, IfSome}
use Rattle.std.specs.Str.{bytes_eq}
use Rattle.std.proofs.lemmas.Bool.Decides.{nat_tests}
use lib.Chars.{codes}
use Rattle.session_script.specs.declared.act.Act.{Act}
use Rattle.session_script.specs.declared.act.Act.TheVariants as act
use Rattle.session_script.specs.declared.parts.Header.{Header}
use Rattle.session_script.specs.declared.reader.act_word.ActWord.{ActWord}
use Rattle.session_script.specs.declared.reader.act_word.ActWord.TheVariants as words
use Rattle.session_script.specs.declared.act.Bodies.TheVariants as bodies
use Rattle.session_script.specs.Tokens.{Tokens, begins}
use Rattle.session_script.specs.Productions.{◌>>=◌, done, word, bounded, declared_number, optional, types, plug, bytes}
use Rattle.session_script.specs.Acts.{context_word, timer_word, stream_word, act_word_of, act_word, fields, bodies_of}
use Rattle.session_script.specs.Text.{words_of, Words, IsWord, IsN, IsDashOrN, IsDataText, IsLater, IsPlugText, IsTail, act_text, IsFieldsText, BelongsTo}
use Rattle.session_script.specs.WellFormed.{IsLane, IsPlug, FitsAct}
use Rattle.session_script.proofs.AcceptingLemmas.{Accepts, Then, then_accepts, weaker_accepts, done_accepts, starts, begins_starts}
use Rattle.session_script.proofs.ChoosingLemmas.{Either, either_accepts}
use Rattle.session_script.proofs.AcceptingPartsLemmas.{word_accepts, bounded_accepts, declared_accepts, optional_accepts, bytes_accepts, types_accepts}

-- the act word of an act
pub word_of : Act → ActWord
word_of (act.Post strand) = words.Post
word_of (act.Defer strand) = words.Defer
word_of (act.Dispatch strand) = words.Dispatch
word_of (act.Expires timer after) = words.Expires
word_of (act.ExpiresAt timer at) = words.ExpiresAt
word_of (act.Wait timer strand slot filter) = words.Wait
word_of (act.Cancel timer) = words.Cancel
word_of (act.CancelOne timer) = words.CancelOne
word_of (act.Emit slot kinds) = words.Emit
word_of (act.ReadSome stream size strand slot filter) = words.ReadSome
word_of (act.ReadAll stream size strand slot filter) = words.Read
word_of (act.Until stream delimiter max strand slot filter) = words.Until
word_of (act.WriteSome stream bytes strand slot filter) = words.WriteSome
word_of (act.WriteAll stream bytes strand slot filter) = words.Write
word_of (act.Close stream) = words.Close
word_of (act.Release guard) = words.Release
word_of act.Stop = words.Stop

is_not_first : (v : ℕ) → IsLater v → nat_eq v 1 ≡ false
is_not_first zero later = refl
is_not_first (suc zero) later = absurd (later refl)
is_not_first (suc (suc v)) later = grind (arith, nat_tests)

-- the word of an act is read as its act word
pub act_word_is : (v : ℕ) (made : Act) → BelongsTo v made → act_word v false (act_text made) ≡ Ok (word_of made)
unfolding act_word act_word_of context_word timer_word stream_word word_of
act_word_is v (act.Post strand) belongs = refl
act_word_is v (act.Defer strand) belongs = refl
act_word_is v (act.Dispatch strand) belongs = refl
act_word_is v (act.Expires timer after) belongs = refl
act_word_is v (act.ExpiresAt timer at) belongs = rw (is_not_first v belongs) refl
act_word_is v (act.Wait timer strand slot filter) belongs = refl
act_word_is v (act.Cancel timer) belongs = refl
act_word_is v (act.CancelOne timer) belongs = refl
act_word_is v (act.Emit slot kinds) belongs = refl
act_word_is v (act.ReadSome stream size strand slot filter) belongs = refl
act_word_is v (act.ReadAll stream size strand slot filter) belongs = refl
act_word_is v (act.Until stream delimiter max strand slot filter) belongs = refl
act_word_is v (act.WriteSome stream bytes strand slot filter) belongs = refl
act_word_is v (act.WriteAll stream bytes strand slot filter) belongs = refl
act_word_is v (act.Close stream) belongs = refl
act_word_is v (act.Release guard) belongs = refl
act_word_is v act.Stop belongs = refl

-- the word of an act is no brace, and begins no branch
pub act_text_is_no : (made : Act) →
    (bytes_eq (act_text made) (codes "}") ≡ false) × (bytes_eq (act_text made) (codes "abort") ≡ false)
    × (bytes_eq (act_text made) (codes "other") ≡ false)
act_text_is_no (act.Post strand) = (refl, refl, refl)
act_text_is_no (act.Defer strand) = (refl, refl, refl)
act_text_is_no (act.Dispatch strand) = (refl, refl, refl)
act_text_is_no (act.Expires timer after) = (refl, refl, refl)
act_text_is_no (act.ExpiresAt timer at) = (refl, refl, refl)
act_text_is_no (act.Wait timer strand slot filter) = (refl, refl, refl)
act_text_is_no (act.Cancel timer) = (refl, refl, refl)
act_text_is_no (act.CancelOne timer) = (refl, refl, refl)
act_text_is_no (act.Emit slot kinds) = (refl, refl, refl)
act_text_is_no (act.ReadSome stream size strand slot filter) = (refl, refl, refl)
act_text_is_no (act.ReadAll stream size strand slot filter) = (refl, refl, refl)
act_text_is_no (act.Until stream delimiter max strand slot filter) = (refl, refl, refl)
act_text_is_no (act.WriteSome stream bytes strand slot filter) = (refl, refl, refl)
act_text_is_no (act.WriteAll stream bytes strand slot filter) = (refl, refl, refl)
act_text_is_no (act.Close stream) = (refl, refl, refl)
act_text_is_no (act.Release guard) = (refl, refl, refl)
act_text_is_no act.Stop = (refl, refl, refl)

-- `only` doesn't come next where a plug may stand
abbrev pub IsFree : Act → Words → Type 0
IsFree made rest = bodies_of made ≡ bodies.Operation → starts (codes "only") rest ≡ false

-- the fields of an act that are within the limits
abbrev pub FieldsFit : Header → Act → Words → Words → Type 0
FieldsFit h made ws rest = IsFieldsText h.version made ws rest × FitsAct h made × IsFree made rest

-- a slot, and the types that it lets through
abbrev PlugFits : Header → Option ℕ × ℕ → Words → Words → Type 0
PlugFits h p ws rest = IsPlugText h.version p.0 p.1 ws rest × IsPlug h p.0 p.1 × (starts (codes "only") rest ≡ false)

-- whether no filter is read
abbrev ends_plug : ℕ → Option ℕ → Words → Bool
ends_plug v slot ws = is_none slot || nat_eq v 1 || not (starts (codes "only") ws)

-- the same, of tokens
abbrev ends_plug_before : ℕ → Option ℕ → Tokens → Bool
ends_plug_before v slot ts = is_none slot || nat_eq v 1 || not (begins (codes "only") ts)

ends_plug_same : (v : ℕ) (slot : Option ℕ) (ts : Tokens) → ends_plug_before v slot ts ≡ ends_plug v slot (words_of ts)
ends_plug_same v slot ts = ap (λ b. is_none slot || nat_eq v 1 || not b) (begins_starts (codes "only") ts)

-- a set of types
abbrev IsTypes : ℕ → Words → Words → Type 0
IsTypes n ws rest = IsN n ws rest × (n ≤ 7)

-- a filter after its word
abbrev IsFilter : Option ℕ → Option ℕ × ℕ → Words → Words → Type 0
IsFilter slot =
    Then {A = Unit {0}} (λ u. IsWord (codes "only")) (λ u. Then IsTypes (λ n p ws rest. (p ≡ (slot, n)) × (ws ≡ rest)))

-- what stands after a slot: nothing, or a filter
abbrev AfterSlot : ℕ → Option ℕ → Option ℕ × ℕ → Words → Words → Type 0
AfterSlot v slot = Either (ends_plug v slot) (λ p ws rest. (p ≡ (slot, 7)) × (ws ≡ rest)) (IsFilter slot)

after_slot_accepts : (v : ℕ) (slot : Option ℕ) →
    Accepts (AfterSlot v slot) (λ ts.
    cond (ends_plug_before v slot ts) (done (slot, 7) ts)
    ((word (codes "only") >>= λ _. types >>= λ kinds. done (slot, kinds)) ts))
after_slot_accepts v slot =
    either_accepts (ends_plug_before v slot) (ends_plug v slot) (ends_plug_same v slot) (done_accepts (slot, 7))
    (then_accepts (word_accepts (codes "only")) (λ u. then_accepts types_accepts (λ n. done_accepts (slot, n))))

no_only : (a b c : Bool) → c ≡ false → (a || b || not c) ≡ true
no_only true b c none = refl
no_only false true c none = refl
no_only false false c none = ap not none

some_only : (a b c : Bool) → a ≡ false → b ≡ false → c ≡ true → (a || b || not c) ≡ false
some_only a b c not_a not_b is_c = rw (not_a, not_b, is_c) refl

-- a number that is declared, or none
abbrev IsChosen : ℕ → Option ℕ → Words → Words → Type 0
IsChosen count o ws rest = IsDashOrN o ws rest × IfSome o (λ n. n < count)

plug_parts : (h : Header) (p : Option ℕ × ℕ) (ws rest : Words) → PlugFits h p ws rest →
    Then (IsChosen h.slots) (AfterSlot h.version) p ws rest
plug_parts h p ws rest (inl text, fits, free) = (
  p.0,
  rest,
  (text.0, fits.0),
  inl (
    no_only (is_none p.0) (nat_eq h.version 1) (starts (codes "only") rest) free,
    (ap (λ n. (p.0, n)) text.1, refl),
  ),
)
plug_parts h p ws rest (inr text, fits, free) =
    let part = text.1 in
    let named : IsDashOrN p.0 ws part.1 = subst (λ slot. IsDashOrN slot ws part.1) (sym part.3) part.4 in
    let filtered =
    some_only (is_none p.0) (nat_eq h.version 1) (starts (codes "only") part.1) (ap is_none part.3)
    (is_not_first h.version text.0) (ap (starts (codes "only")) part.5) in
    (p.0, part.1, (named, fits.0), inr (filtered, (tt, part.2, part.5, (p.1, rest, (part.6, fits.1), (refl, refl)))))

pub plug_accepts : (h : Header) → Accepts (PlugFits h) (plug h)
unfolding plug
plug_accepts h =
    weaker_accepts _ (PlugFits h) (plug_parts h) (then_accepts (optional_accepts h.slots) (after_slot_accepts h.version))

-- a number that is declared
abbrev IsBelow : ℕ → ℕ → Words → Words → Type 0
IsBelow count n ws rest = IsN n ws rest × (n < count)

-- a number within limits
abbrev IsBounded : ℕ → ℕ → ℕ → Words → Words → Type 0
IsBounded least most n ws rest = IsN n ws rest × (least ≤ n) × (n ≤ most)

-- bytes that are not too many
abbrev IsShort : ℕ → List ℕ → Words → Words → Type 0
IsShort most bs ws rest = IsDataText bs ws rest × (length bs ≤ most)

-- nothing more of an act
abbrev Made : Act → Act → Words → Words → Type 0
Made value made ws rest = (made ≡ value) × (ws ≡ rest)

numbered : (count : ℕ) (make : ℕ → Act) →
    Accepts (Then (IsBelow count) (λ n. Made (make n))) (declared_number count >>= λ n. done (make n))
numbered count make = then_accepts (declared_accepts count) (λ n. done_accepts (make n))

laned : (count : ℕ) (make : Option ℕ → Act) →
    Accepts (Then (IsChosen count) (λ strand. Made (make strand))) (optional count >>= λ strand. done (make strand))
laned count make = then_accepts (optional_accepts count) (λ strand. done_accepts (make strand))

timed : (h : Header) (make : ℕ → ℕ → Act) →
    Accepts (Then (IsBelow h.timers) (λ timer. Then (IsBounded 0 h.limits.time) (λ time. Made (make timer time))))
    (declared_number h.timers >>= λ timer. bounded 0 h.limits.time >>= λ time. done (make timer time))
timed h make =
    then_accepts (declared_accepts h.timers)
    (λ timer. then_accepts (bounded_accepts 0 h.limits.time) (λ time. done_accepts (make timer time)))

-- what stands after the timer or the stream of an operation
abbrev Tail : Header → (Option ℕ → Option ℕ → ℕ → Act) → Act → Words → Words → Type 0
Tail h make = Then (IsChosen h.strands) (λ strand. Then (PlugFits h) (λ p. Made (make strand p.0 p.1)))

tailed : (h : Header) (make : Option ℕ → Option ℕ → ℕ → Act) →
    Accepts (Tail h make)
    (optional h.strands >>= λ strand. plug h >>= λ plugged. done (make strand plugged.0 plugged.1))
tailed h make =
    then_accepts (optional_accepts h.strands) (λ strand. then_accepts (plug_accepts h) (λ p. done_accepts (make strand p.0 p.1)))

tail_is : (h : Header) (make : Option ℕ → Option ℕ → ℕ → Act) (strand slot : Option ℕ) (filter : ℕ) (ws rest : Words) →
    IsTail h.version strand slot filter ws rest → IsLane h strand → IsPlug h slot filter →
    starts (codes "only") rest ≡ false → Tail h make (make strand slot filter) ws rest
tail_is h make strand slot filter ws rest text lane fits free =
    (strand, text.0, (text.1, lane), ((slot, filter), rest, (text.2, fits, free), (refl, refl)))

-- an operation with a size
abbrev Sized : Header → (ℕ → ℕ → Option ℕ → Option ℕ → ℕ → Act) → Act → Words → Words → Type 0
Sized h make = Then (IsBelow h.streams) (λ stream. Then (IsBounded 1 h.limits.size) (λ size. Tail h (make stream size)))

sized : (h : Header) (make : ℕ → ℕ → Option ℕ → Option ℕ → ℕ → Act) →
    Accepts (Sized h make) (declared_number h.streams >>= λ stream.
    bounded 1 h.limits.size >>= λ size.
    optional h.strands >>= λ strand. plug h >>= λ plugged. done (make stream size strand plugged.0 plugged.1))
sized h make =
    then_accepts (declared_accepts h.streams)
    (λ stream. then_accepts (bounded_accepts 1 h.limits.size) (λ size. tailed h (make stream size)))

-- an operation with bytes
abbrev Filled : Header → (ℕ → List ℕ → Option ℕ → Option ℕ → ℕ → Act) → Act → Words → Words → Type 0
Filled h make = Then (IsBelow h.streams) (λ stream. Then (IsShort h.limits.size) (λ bs. Tail h (make stream bs)))

filled : (h : Header) (make : ℕ → List ℕ → Option ℕ → Option ℕ → ℕ → Act) →
    Accepts (Filled h make) (declared_number h.streams >>= λ stream.
    bytes h.limits.size >>= λ bs.
    optional h.strands >>= λ strand. plug h >>= λ plugged. done (make stream bs strand plugged.0 plugged.1))
filled h make =
    then_accepts (declared_accepts h.streams)
    (λ stream. then_accepts (bytes_accepts h.limits.size) (λ bs. tailed h (make stream bs)))

-- an operation with a delimiter
abbrev Delimited : Header → Act → Words → Words → Type 0
Delimited h =
    Then (IsBelow h.streams) (λ stream.
    Then (IsShort h.limits.delimiter)
    (λ bs. Then (IsBounded 1 h.limits.size) (λ max. Tail h (act.Until stream bs max))))

delimited : (h : Header) → Accepts (Delimited h) (fields h words.Until)
unfolding fields
delimited h =
    then_accepts (declared_accepts h.streams) (λ stream.
    then_accepts (bytes_accepts h.limits.delimiter)
    (λ bs. then_accepts (bounded_accepts 1 h.limits.size) (λ max. tailed h (act.Until stream bs max))))

zero_le : (n : ℕ) → 0 ≤ n
zero_le n = omega arith

-- the fields of an act are read after its word
fields_are : (h : Header) (made : Act) (ts : Tokens) (rest : Words) → FieldsFit h made (words_of ts) rest →
    (left : Tokens) × (words_of left ≡ rest) × (fields h (word_of made) ts ≡ Ok (made, left))
unfolding fields word_of
fields_are h (act.Post strand) ts rest p =
    (laned h.strands act.Post).accepts _ ts rest (strand, rest, (p.0, p.1), (refl, refl))
fields_are h (act.Defer strand) ts rest p =
    (laned h.strands act.Defer).accepts _ ts rest (strand, rest, (p.0, p.1), (refl, refl))
fields_are h (act.Dispatch strand) ts rest p =
    (laned h.strands act.Dispatch).accepts _ ts rest (strand, rest, (p.0, p.1), (refl, refl))
fields_are h (act.Expires timer after) ts rest p =
    (timed h act.Expires).accepts _ ts rest
    (timer, p.0.0, (p.0.1, p.1.0), (after, rest, (p.0.2, zero_le after, p.1.1), (refl, refl)))
fields_are h (act.ExpiresAt timer at) ts rest p =
    (timed h act.ExpiresAt).accepts _ ts rest (timer, p.0.0, (p.0.1, p.1.0), (at, rest, (p.0.2, zero_le at, p.1.1), (refl, refl)))
fields_are h (act.Wait timer strand slot filter) ts rest p =
    (then_accepts (declared_accepts h.timers) (λ n. tailed h (act.Wait n))).accepts _ ts rest (
      timer,
      p.0.0,
      (p.0.1, p.1.0),
      tail_is h (act.Wait timer) strand slot filter p.0.0 rest p.0.2 p.1.1 p.1.2 (p.2 refl),
    )
fields_are h (act.Cancel timer) ts rest p =
    (numbered h.timers act.Cancel).accepts _ ts rest (timer, rest, (p.0, p.1), (refl, refl))
fields_are h (act.CancelOne timer) ts rest p =
    (numbered h.timers act.CancelOne).accepts _ ts rest (timer, rest, (p.0, p.1), (refl, refl))
fields_are h (act.Emit slot kinds) ts rest p =
    (then_accepts (declared_accepts h.slots)
    (λ n. then_accepts types_accepts (λ k. done_accepts (act.Emit n k)))).accepts _ ts rest
    (slot, p.0.0, (p.0.1, p.1.0), (kinds, rest, (p.0.2, p.1.1), (refl, refl)))
fields_are h (act.ReadSome stream size strand slot filter) ts rest p =
    (sized h act.ReadSome).accepts _ ts rest (
      stream,
      p.0.0,
      (p.0.2, p.1.0),
      (
        size,
        p.0.1,
        (p.0.3, p.1.1.0, p.1.1.1),
        tail_is h (act.ReadSome stream size) strand slot filter p.0.1 rest p.0.4 p.1.2 p.1.3 (p.2 refl),
      ),
    )
fields_are h (act.ReadAll stream size strand slot filter) ts rest p =
    (sized h act.ReadAll).accepts _ ts rest (
      stream,
      p.0.0,
      (p.0.2, p.1.0),
      (
        size,
        p.0.1,
        (p.0.3, p.1.1.0, p.1.1.1),
        tail_is h (act.ReadAll stream size) strand slot filter p.0.1 rest p.0.4 p.1.2 p.1.3 (p.2 refl),
      ),
    )
fields_are h (act.Until stream delimiter max strand slot filter) ts rest p =
    (delimited h).accepts _ ts rest (
      stream,
      p.0.0,
      (p.0.3, p.1.0),
      (
        delimiter,
        p.0.1,
        (p.0.4, p.1.1.1),
        (
          max,
          p.0.2,
          (p.0.5, p.1.2.0, p.1.2.1),
          tail_is h (act.Until stream delimiter max) strand slot filter p.0.2 rest p.0.6 p.1.3 p.1.4 (p.2 refl),
        ),
      ),
    )
fields_are h (act.WriteSome stream bytes strand slot filter) ts rest p =
    (filled h act.WriteSome).accepts _ ts rest (
      stream,
      p.0.0,
      (p.0.2, p.1.0),
      (
        bytes,
        p.0.1,
        (p.0.3, p.1.1.1),
        tail_is h (act.WriteSome stream bytes) strand slot filter p.0.1 rest p.0.4 p.1.2 p.1.3 (p.2 refl),
      ),
    )
fields_are h (act.WriteAll stream bytes strand slot filter) ts rest p =
    (filled h act.WriteAll).accepts _ ts rest (
      stream,
      p.0.0,
      (p.0.2, p.1.0),
      (
        bytes,
        p.0.1,
        (p.0.3, p.1.1.1),
        tail_is h (act.WriteAll stream bytes) strand slot filter p.0.1 rest p.0.4 p.1.2 p.1.3 (p.2 refl),
      ),
    )
fields_are h (act.Close stream) ts rest p =
    (numbered h.streams act.Close).accepts _ ts rest (stream, rest, (p.0, p.1), (refl, refl))
fields_are h (act.Release guard) ts rest p =
    (numbered h.guards act.Release).accepts _ ts rest (guard, rest, (p.0, p.1), (refl, refl))
fields_are h act.Stop ts rest p = (done_accepts act.Stop).accepts _ ts rest (refl, p.0)

-- the fields that belong to an act word
pub fields_accept : (h : Header) (w : ActWord) →
    Accepts (λ made ws rest. (w ≡ word_of made) × FieldsFit h made ws rest) (fields h w)
fields_accept h w = record {
  accepts = λ made ts rest p.
      let x = fields_are h made ts rest p.1 in
      (x.0, x.1, ap (λ begun. fields h begun ts) p.0 ∙ x.2);
}

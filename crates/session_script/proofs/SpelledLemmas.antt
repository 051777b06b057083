-- What is read is spelled so, by the grammar as it is written.
use Rattle.std.proofs.Common.{◌≡◌, ℕ, Bool, true, false, not, cond, ◌&&◌, ◌||◌, List, ◌∷◌, Option, Some, None, Result, Ok, Err, refl, sym, ap, ◌∙◌, inl, inr}
use Rattle.std.specs.Prelude.{nat_eq, nat_lt, nat_le, is_none}
use Rattle.std.specs.Str.{bytes_eq}
use Rattle.std.proofs.lemmas.Slice.Eq.{bytes_eq-Decides}
use Rattle.std.proofs.lemmas.Bool.{false≢true}
use lib.Chars.{codes}
use Rattle.session_script.specs.declared.refusal.Rule.{Rule}
use Rattle.session_script.specs.declared.refusal.Rule.TheVariants as rule
use Rattle.session_script.specs.declared.refusal.Refusal.{Refusal}
use Rattle.session_script.specs.declared.parts.Header.{Header}
use Rattle.session_script.specs.Tokens.{Tokens, end, token, begins}
use Rattle.session_script.specs.Kinds as kinds
use Rattle.session_script.specs.Kinds.{number, exactly, another_word, within, known, chosen, version, data_digits}
use Rattle.session_script.specs.Productions.{and_then, ◌>>=◌, done, judged, one, word, another, bounded, declared_number, optional, types, plug, bytes, count}
use Rattle.session_script.specs.Text.{words_of, Words, IsWord, IsN, IsDashOrN, IsLater, IsPlugText, IsDataText, IsCountText}

-- of what was read
abbrev pub Spelt : {A : Type 0} → (A → Words → Words → Type 0) → Tokens → Result (A × Tokens) Refusal → Type 0
Spelt P ts (Ok read) = P read.0 (words_of ts) (words_of read.1)
Spelt P ts (Err refusal) = Unit {0}

pub record Spells {A : Type 0} (P : A → Words → Words → Type 0) (r : Tokens → Result (A × Tokens) Refusal)
    : Type 0 where
  pub spelt : (ts : Tokens) → Spelt P ts (r ts)

-- what comes after a part that is spelled by P, where all is to be spelled by R
abbrev pub After : {A B : Type 0} → (A → Words → Words → Type 0) → (B → Words → Words → Type 0) → A → B → Words →
    Words → Type 0
After P R a b mid rest = (ws : Words) → P a ws mid → R b ws rest

rest_spelt : {A B : Type 0} (P : A → Words → Words → Type 0) (R : B → Words → Words → Type 0) (ts : Tokens) (a : A)
    (mid : Tokens) (r : Result (B × Tokens) Refusal) → P a (words_of ts) (words_of mid) → Spelt (After P R a) mid r →
    Spelt R ts r
rest_spelt P R ts a mid (Ok read) p next = next (words_of ts) p
rest_spelt P R ts a mid (Err refusal) p next = tt

then_spelt : {A B : Type 0} (P : A → Words → Words → Type 0) (R : B → Words → Words → Type 0) (ts : Tokens)
    (r : Result (A × Tokens) Refusal) (f : A → Tokens → Result (B × Tokens) Refusal) → Spelt P ts r →
    ((a : A) → Spells (After P R a) (f a)) → Spelt R ts (and_then r f)
then_spelt P R ts (Ok read) f p next = rest_spelt P R ts read.0 read.1 (f read.0 read.1) p ((next read.0).spelt read.1)
then_spelt P R ts (Err refusal) f p next = tt

pub then_spells : {A B : Type 0} {P : A → Words → Words → Type 0} {R : B → Words → Words → Type 0}
    {r : Tokens → Result (A × Tokens) Refusal} {f : A → Tokens → Result (B × Tokens) Refusal} → Spells P r →
    ((a : A) → Spells (After P R a) (f a)) → Spells R (r >>= f)
then_spells {P = P} {R = R} {r = r} {f = f} first next =
    record { spelt = λ ts. then_spelt P R ts (r ts) f (first.spelt ts) next }

pub done_spells : {A : Type 0} {P : A → Words → Words → Type 0} {value : A} → ((ws : Words) → P value ws ws) →
    Spells P (done value)
done_spells p = record { spelt = λ ts. p (words_of ts) }

weaker_spelt : {A : Type 0} (P Q : A → Words → Words → Type 0) (ts : Tokens) (r : Result (A × Tokens) Refusal) →
    ((a : A) (ws rest : Words) → P a ws rest → Q a ws rest) → Spelt P ts r → Spelt Q ts r
weaker_spelt P Q ts (Ok read) less p = less read.0 (words_of ts) (words_of read.1) p
weaker_spelt P Q ts (Err refusal) less p = tt

pub weaker_spells : {A : Type 0} (P Q : A → Words → Words → Type 0) {r : Tokens → Result (A × Tokens) Refusal} →
    ((a : A) (ws rest : Words) → P a ws rest → Q a ws rest) → Spells P r → Spells Q r
weaker_spells P Q {r = r} less spells = record { spelt = λ ts. weaker_spelt P Q ts (r ts) less (spells.spelt ts) }

pub choice_spelt : {A : Type 0} (P : A → Words → Words → Type 0) (ts : Tokens) (test : Bool)
    (r s : Result (A × Tokens) Refusal) → Spelt P ts r → Spelt P ts s → Spelt P ts (cond test r s)
choice_spelt P ts true r s first second = first
choice_spelt P ts false r s first second = second

pub if_spells : {A : Type 0} {P : A → Words → Words → Type 0} {r : Tokens → Result (A × Tokens) Refusal}
    (test : Tokens → Bool) (value : A) → ((ws : Words) → P value ws ws) → Spells P r →
    Spells P (λ ts. cond (test ts) (r ts) (Ok (value, ts)))
if_spells {P = P} {r = r} test value p spells =
    record { spelt = λ ts. choice_spelt P ts (test ts) (r ts) (Ok (value, ts)) (spells.spelt ts) (p (words_of ts)) }

pub else_spells : {A : Type 0} {P : A → Words → Words → Type 0} {r : Tokens → Result (A × Tokens) Refusal}
    (test : Tokens → Bool) (value : A) → ((ws : Words) → P value ws ws) → Spells P r →
    Spells P (λ ts. cond (test ts) (Ok (value, ts)) (r ts))
else_spells {P = P} {r = r} test value p spells =
    record { spelt = λ ts. choice_spelt P ts (test ts) (Ok (value, ts)) (r ts) (p (words_of ts)) (spells.spelt ts) }

-- of the bytes of one token
abbrev pub Says : {A : Type 0} → (A → List ℕ → Type 0) → List ℕ → Result A Rule → Type 0
Says P bs (Ok value) = P value bs
Says P bs (Err violated) = Unit {0}

-- one word that says so
abbrev pub OneWord : {A : Type 0} → (A → List ℕ → Type 0) → A → Words → Words → Type 0
OneWord P value ws rest = (w : List ℕ) × P value w × (ws ≡ w ∷ rest)

judged_spelt : {A : Type 0} (P : A → List ℕ → Type 0) (bs : List ℕ) (test : Result A Rule) (at : _) (rest : Tokens) →
    Says P bs test → Spelt (OneWord P) (token bs at rest) (judged test at rest)
judged_spelt P bs (Ok value) at rest p = (bs, p, refl)
judged_spelt P bs (Err _) at rest p = tt

one_spelt : {A : Type 0} (P : A → List ℕ → Type 0) (test : List ℕ → Result A Rule) →
    ((bs : List ℕ) → Says P bs (test bs)) → (ts : Tokens) → Spelt (OneWord P) ts (one test ts)
one_spelt P test says (end at) = tt
one_spelt P test says (token bs at rest) = judged_spelt P bs (test bs) at rest (says bs)

pub one_spells : {A : Type 0} (P : A → List ℕ → Type 0) (test : List ℕ → Result A Rule) →
    ((bs : List ℕ) → Says P bs (test bs)) → Spells (OneWord P) (one test)
one_spells P test says = record { spelt = one_spelt P test says }

bind_says : {A B : Type 0} (P : A → List ℕ → Type 0) (Q : B → List ℕ → Type 0) (bs : List ℕ) (r : Result A Rule)
    (f : A → Result B Rule) → Says P bs r → ((a : A) → P a bs → Says Q bs (f a)) → Says Q bs (kinds.◌>>=◌ r f)
bind_says P Q bs (Ok value) f p next = next value p
bind_says P Q bs (Err _) f p next = tt

pub choice_says : {A : Type 0} (P : A → List ℕ → Type 0) (bs : List ℕ) (test : Bool) (r s : Result A Rule) →
    (test ≡ true → Says P bs r) → (test ≡ false → Says P bs s) → Says P bs (cond test r s)
choice_says P bs true r s first second = first refl
choice_says P bs false r s first second = second refl

-- a test says what it gives
itself : {A : Type 0} (test : List ℕ → Result A Rule) (bs : List ℕ) (r : Result A Rule) → test bs ≡ r →
    Says (λ value w. test w ≡ Ok value) bs r
itself test bs (Ok value) e = e
itself test bs (Err _) e = tt

pub is_text : (bs text : List ℕ) → bytes_eq bs text ≡ true → bs ≡ text
is_text bs text e = (bytes_eq-Decides bs text).0 e

abbrev IsTheWord : List ℕ → Unit {0} → List ℕ → Type 0
IsTheWord text u w = w ≡ text

exactly_says : (text bs : List ℕ) → Says (IsTheWord text) bs (exactly text bs)
unfolding exactly
exactly_says text bs = choice_says (IsTheWord text) bs (bytes_eq bs text) (Ok tt) _ (λ e. is_text bs text e) (λ _. tt)

as_word : (text : List ℕ) (u : Unit {0}) (ws rest : Words) → OneWord (IsTheWord text) u ws rest → IsWord text ws rest
as_word text u ws rest p = p.2 ∙ ap (λ w. w ∷ rest) p.1

pub word_spells : (text : List ℕ) → Spells (λ u. IsWord text) (word text)
unfolding word
word_spells text =
    weaker_spells (OneWord (IsTheWord text)) (λ u. IsWord text) (as_word text)
    (one_spells (IsTheWord text) (exactly text) (exactly_says text))

pub another_spells : (text : List ℕ) (full : Bool) → Spells (λ u. IsWord text) (another text full)
unfolding another another_word
another_spells text full =
    weaker_spells (OneWord (IsTheWord text)) (λ u. IsWord text) (as_word text) (one_spells (IsTheWord text)
    (another_word text full) (λ bs.
    bind_says (IsTheWord text) (IsTheWord text) bs (exactly text bs) _ (exactly_says text bs)
    (λ u e. choice_says (IsTheWord text) bs full _ _ (λ _. tt) (λ _. e))))

abbrev IsNumeral : ℕ → List ℕ → Type 0
IsNumeral n w = number w ≡ Ok n

pub bounded_spells : (least most : ℕ) → Spells IsN (bounded least most)
unfolding bounded within
bounded_spells least most =
    one_spells IsNumeral (within least most) (λ bs.
    bind_says IsNumeral IsNumeral bs (number bs) _ (itself number bs (number bs) refl)
    (λ n e. choice_says IsNumeral bs (nat_le least n && nat_le n most) _ _ (λ _. e) (λ _. tt)))

known_says : (limit : ℕ) (bs : List ℕ) → Says IsNumeral bs (known limit bs)
unfolding known
known_says limit bs =
    bind_says IsNumeral IsNumeral bs (number bs) _ (itself number bs (number bs) refl)
    (λ n e. choice_says IsNumeral bs (nat_lt n limit) (Ok n) (Err rule.Unknown) (λ _. e) (λ _. tt))

pub declared_spells : (limit : ℕ) → Spells IsN (declared_number limit)
unfolding declared_number
declared_spells limit = one_spells IsNumeral (known limit) (known_says limit)

pub version_spells : Spells IsN (one version)
unfolding version
version_spells =
    one_spells IsNumeral version (λ bs.
    bind_says IsNumeral IsNumeral bs (number bs) _ (itself number bs (number bs) refl)
    (λ n e. choice_says IsNumeral bs (nat_eq n 1 || nat_eq n 2) (Ok n) (Err rule.Version) (λ _. e) (λ _. tt)))

abbrev IsDashOrNumeral : Option ℕ → List ℕ → Type 0
IsDashOrNumeral None w = w ≡ codes "-"
IsDashOrNumeral (Some n) w = number w ≡ Ok n

as_dash_or_n : (o : Option ℕ) (ws rest : Words) → OneWord IsDashOrNumeral o ws rest → IsDashOrN o ws rest
as_dash_or_n None ws rest p = p.2 ∙ ap (λ w. w ∷ rest) p.1
as_dash_or_n (Some n) ws rest p = p

pub optional_spells : (limit : ℕ) → Spells IsDashOrN (optional limit)
unfolding optional chosen
optional_spells limit =
    weaker_spells (OneWord IsDashOrNumeral) IsDashOrN as_dash_or_n (one_spells IsDashOrNumeral (chosen limit)
    (λ bs.
    choice_says IsDashOrNumeral bs (bytes_eq bs (codes "-")) (Ok None) _ (λ e. is_text bs (codes "-") e)
    (λ _. bind_says IsNumeral IsDashOrNumeral bs (known limit bs) _ (known_says limit bs) (λ n e. e))))

pub types_spells : Spells IsN types
unfolding types
types_spells = bounded_spells 0 7

pub is_later : (v : ℕ) → nat_eq v 1 ≡ false → IsLater v
is_later v other first = absurd (false≢true (sym other ∙ ap (λ n. nat_eq n 1) first))

abbrev PlugText : ℕ → Option ℕ × ℕ → Words → Words → Type 0
PlugText v p ws rest = IsPlugText v p.0 p.1 ws rest

-- what stands after a slot
filter_spells : (v : ℕ) (first : Bool) (slot : ℕ) → nat_eq v 1 ≡ first →
    Spells (After IsDashOrN (PlugText v) (Some slot)) (λ ts.
    cond (first || not (begins (codes "only") ts)) (Ok ((Some slot, 7), ts))
    ((word (codes "only") >>= λ _. types >>= λ kinds. done (Some slot, kinds)) ts))
filter_spells v true slot is = done_spells (λ mid ws p. inl (p, refl))
filter_spells v false slot is =
    else_spells (λ ts. not (begins (codes "only") ts)) (Some slot, 7) (λ mid ws p. inl (p, refl))
    (then_spells (word_spells (codes "only")) (λ _.
    then_spells types_spells
    (λ k. done_spells (λ rest b kinds a only ws p. inr (is_later v is, (slot, a, b, refl, p, only, kinds))))))

pub plug_spells : (h : Header) → Spells (λ p. IsPlugText h.version p.0 p.1) (plug h)
unfolding plug
plug_spells h = then_spells (optional_spells h.slots) plug_after
  where
    plug_after : (slot : Option ℕ) →
        Spells (After IsDashOrN (PlugText h.version) slot) (λ ts.
        cond (is_none slot || nat_eq h.version 1 || not (begins (codes "only") ts)) (Ok ((slot, 7), ts))
        ((word (codes "only") >>= λ _. types >>= λ kinds. done (slot, kinds)) ts))
    plug_after None = done_spells (λ mid ws p. inl (p, refl))
    plug_after (Some slot) = filter_spells h.version (nat_eq h.version 1) slot refl

pub bytes_spells : (most : ℕ) → Spells IsDataText (bytes most)
unfolding bytes
bytes_spells most =
    then_spells
    (one_spells (λ ds w. data_digits most w ≡ Ok ds) (data_digits most)
    (λ bs. itself (data_digits most) bs (data_digits most bs) refl))
    (λ ds. done_spells (λ rest ws p. (p.0, most, ds, p.1, refl, p.2)))

pub count_spells : (text : List ℕ) (most : ℕ) → Spells (IsCountText text) (count text most)
unfolding count
count_spells text most =
    if_spells {P = IsCountText text} (begins text) 0 (λ ws. inl (refl, refl)) (then_spells (word_spells text)
    (λ _. weaker_spells IsN _ (λ n mid rest numeral ws w. inr (mid, w, numeral)) (bounded_spells 0 most)))

-- What each kind of word says: what is read of it is what it says, and what is said so is read.
use Rattle.std.proofs.Common.{◌≡◌, ◌≢◌, ℕ, Bool, true, false, List, [], ◌∷◌, Option, Some, None, refl, sym, ap, subst, ◌∙◌, arith, ◌⊎◌, inl, inr, codes, if◌then◌else◌}
use Rattle.std.specs.Fmt.{decimal}
use Rattle.std.specs.Str.{bytes_eq}
use Rattle.std.specs.Str.Parse.{AllDigits}
use Rattle.std.proofs.lemmas.Bool.Decides.{nat_tests}
use Rattle.std.proofs.lemmas.Fmt.{decimal_is_IsNumeral}
use Rattle.std.proofs.lemmas.Slice.Eq.{bytes_eq-Decides}
use Rattle.run_lines.specs.declared.bad_line.Wants.{Wants}
use Rattle.run_lines.specs.declared.bad_line.Wants.TheVariants as wants
use Rattle.run_lines.specs.declared.code.Code.{Code}
use Rattle.run_lines.specs.declared.code.Code.TheVariants as code
use Rattle.run_lines.specs.declared.name.Kind.{Kind}
use Rattle.run_lines.specs.declared.name.Kind.TheVariants as kind
use Rattle.run_lines.specs.declared.verb.Verb.{Verb}
use Rattle.run_lines.specs.declared.verb.Verb.TheVariants as verb
use Rattle.run_lines.specs.declared.word.Word.{Word}
use Rattle.run_lines.specs.declared.word.Word.TheVariants as word
use Rattle.run_lines.specs.BadLine.{MayBe, StandsFirst}
use Rattle.run_lines.specs.Code.{IsCode, code_text}
use Rattle.run_lines.specs.Letters.{IsLetters, are_letters}
use Rattle.run_lines.specs.Name.{kind_text}
use Rattle.run_lines.specs.Number.{Is64, IsOptional, number_in, optional_text}
use Rattle.run_lines.specs.Reading.{Rest, code_in, code_of, kind_in, optional_in, verb_in, word_in, word_of}
use Rattle.run_lines.specs.Verb.{verb_text}
use Rattle.run_lines.specs.Word.{IsWord, word_text}
use Rattle.run_lines.proofs.NumberLemmas.{number_is, number_spelled}

-- A way to read a word of what is wanted: what it says is so, and what may stand there is read.
pub record Reads {V : Type 0} (wanted : Wants) (parse : List ℕ → Option V) (Is : V → List ℕ → Type 0) : Type 0 where
  pub sound : (bytes : List ℕ) (v : V) → parse bytes ≡ Some v → Is v bytes
  pub may : (bytes : List ℕ) (v : V) → Is v bytes → MayBe wanted bytes
  pub missing : StandsFirst wanted [] → ⊥
  pub none : (bytes : List ℕ) (rest : Rest) → parse bytes ≡ None → StandsFirst wanted (bytes ∷ rest) → ⊥

-- what each word says
abbrev pub SaysNumber : ℕ → List ℕ → Type 0
SaysNumber n bytes = Is64 n × (bytes ≡ decimal n)

abbrev pub SaysOptional : Option ℕ → List ℕ → Type 0
SaysOptional o bytes = IsOptional o × (bytes ≡ optional_text o)

abbrev pub SaysWord : Word → List ℕ → Type 0
SaysWord w bytes = IsWord w × (bytes ≡ word_text w)

abbrev pub SaysCode : Code → List ℕ → Type 0
SaysCode c bytes = IsCode c × (bytes ≡ code_text c)

abbrev pub SaysKind : Kind → List ℕ → Type 0
SaysKind k bytes = bytes ≡ kind_text k

abbrev pub SaysVerb : Verb → List ℕ → Type 0
SaysVerb v bytes = bytes ≡ verb_text v

-- something isn't nothing
some_none : {V : Type 0} (found : Option V) (v : V) → found ≡ Some v → found ≡ None → ⊥
some_none found v some none = cc

-- a test of bytes, chosen
same : (a b : List ℕ) → bytes_eq a b ≡ true → a ≡ b
same a b e = (bytes_eq-Decides a b).0 e

other : (a b : List ℕ) → bytes_eq a b ≡ false → a ≢ b
other a b e equal = let yes : bytes_eq a b ≡ true = (bytes_eq-Decides a b).1 equal in absurd (cc)

differ : (a b : List ℕ) → a ≢ b → bytes_eq a b ≡ false
differ a b never = differ_at a b (bytes_eq a b) refl never
  where
    differ_at : (a b : List ℕ) (test : Bool) → bytes_eq a b ≡ test → a ≢ b → bytes_eq a b ≡ false
    differ_at a b true e never = absurd (never ((bytes_eq-Decides a b).0 e))
    differ_at a b false e never = e

-- numbers
number_sound : (bytes : List ℕ) (n : ℕ) → number_in bytes ≡ Some n → SaysNumber n bytes
number_sound bytes n e = let is = number_is bytes n e in (is.below, is.text)

pub number_back : (n : ℕ) → Is64 n → number_in (decimal n) ≡ Some n
number_back n fits = number_spelled (decimal n) n fits refl

pub numbers : Reads wants.Number number_in SaysNumber
numbers = record {
  sound = number_sound;
  may = λ bytes n is. (n, is.0, is.1);
  missing = λ h. h;
  none = λ bytes rest none h. some_none (number_in bytes) h.0 (number_spelled bytes h.0 h.1 h.2) none;
}

-- a number, or `-` for none
no_dash : (digits : List ℕ) → AllDigits 10 digits → bytes_eq digits (codes "-") ≡ false
no_dash [] h = refl
no_dash (digit ∷ digits) h = grind (arith, nat_tests)

pub optional_back : (o : Option ℕ) → IsOptional o → optional_in (optional_text o) ≡ Some o
unfolding optional_in
optional_back None h = refl
optional_back (Some n) h = rw (no_dash (decimal n) (decimal_is_IsNumeral n h).0.1, number_back n h) refl

optional_of : (bytes : List ℕ) (dash : Bool) (found : Option ℕ) (o : Option ℕ) →
    bytes_eq bytes (codes "-") ≡ dash → number_in bytes ≡ found →
    (if dash then Some None else (elim found [ Some number ↦ Some (Some number) | None ↦ None ])) ≡ Some o →
    SaysOptional o bytes
optional_of bytes true found None dash number e = (tt, same bytes (codes "-") dash)
optional_of bytes true found (Some n) dash number e = absurd (cc)
optional_of bytes false None o dash number e = absurd (cc)
optional_of bytes false (Some m) None dash number e = absurd (cc)
optional_of bytes false (Some m) (Some n) dash number e =
    let equal : m ≡ n = cc in number_sound bytes n (number ∙ ap Some equal)

optional_sound : (bytes : List ℕ) (o : Option ℕ) → optional_in bytes ≡ Some o → SaysOptional o bytes
unfolding optional_in
optional_sound bytes o e = optional_of bytes (bytes_eq bytes (codes "-")) (number_in bytes) o refl refl e

pub optionals : Reads wants.NumberOrDash optional_in SaysOptional
optionals = record {
  sound = optional_sound;
  may = λ bytes o is. (o, is.0, is.1);
  missing = λ h. h;
  none = λ bytes rest none h.
      some_none (optional_in bytes) h.0 (ap optional_in h.2 ∙ optional_back h.0 h.1) none;
}

-- what initiates an operation
word_choice : (bytes : List ℕ) (post defer dispatch : Bool) → bytes_eq bytes (codes "post") ≡ post →
    bytes_eq bytes (codes "defer") ≡ defer → bytes_eq bytes (codes "dispatch") ≡ dispatch → IsLetters bytes →
    SaysWord (if post then word.Post
    else (if defer then word.Defer else (if dispatch then word.Dispatch else word.Other bytes))) bytes
word_choice bytes true b c p q r h = (tt, same bytes (codes "post") p)
word_choice bytes false true c p q r h = (tt, same bytes (codes "defer") q)
word_choice bytes false false true p q r h = (tt, same bytes (codes "dispatch") r)
word_choice bytes false false false p q r h = (
  (
    h,
    record {
      not_post = other bytes (codes "post") p;
      not_defer =
          other bytes (codes "defer") q;
      not_dispatch = other bytes (codes "dispatch") r;
    },
  ),
  refl,
)

word_says : (bytes : List ℕ) → IsLetters bytes → SaysWord (word_of bytes) bytes
unfolding word_of
word_says bytes h = word_choice bytes _ _ _ refl refl refl h

given : {V : Type 0} (test : Bool) (value v : V) → (if test then Some value else None) ≡ Some v → (test ≡ true) × (value ≡ v)
given true value v e = (refl, cc)
given false value v e = absurd (cc)

not_given : {V : Type 0} (test : Bool) (value : V) → (if test then Some value else None) ≡ None → test ≡ true → ⊥
not_given true value e h = cc
not_given false value e h = cc

word_sound : (bytes : List ℕ) (w : Word) → word_in bytes ≡ Some w → SaysWord w bytes
word_sound bytes w e =
    let parts = given (are_letters bytes) (word_of bytes) w e in
    subst (λ w. SaysWord w bytes) parts.1 (word_says bytes parts.0)

word_letters : (w : Word) → IsWord w → IsLetters (word_text w)
unfolding are_letters
word_letters word.Post h = refl
word_letters word.Defer h = refl
word_letters word.Dispatch h = refl
word_letters (word.Other letters) h = h.0

word_of_text : (w : Word) → IsWord w → word_of (word_text w) ≡ w
unfolding word_of
word_of_text word.Post h = refl
word_of_text word.Defer h = refl
word_of_text word.Dispatch h = refl
word_of_text (word.Other letters) h =
    rw (
      differ letters (codes "post") h.1.not_post,
      differ letters (codes "defer") h.1.not_defer,
      differ letters
          (codes "dispatch") h.1.not_dispatch,
    ) refl

pub word_back : (w : Word) → IsWord w → word_in (word_text w) ≡ Some w
word_back w h =
    ap (λ test. if test then Some (word_of (word_text w)) else None) (word_letters w h) ∙ ap Some (word_of_text w h)

pub words : Reads wants.Letters word_in SaysWord
words = record {
  sound = word_sound;
  may = λ bytes w is. subst IsLetters (sym is.1) (word_letters w is.0);
  missing = λ h. h;
  none = λ bytes rest none h. not_given (are_letters bytes) (word_of bytes) none h;
}

-- how an operation completed
code_choice : (bytes : List ℕ) (ok aborted : Bool) → bytes_eq bytes (codes "ok") ≡ ok →
    bytes_eq bytes (codes "aborted") ≡ aborted → IsLetters bytes →
    SaysCode (if ok then code.Ok else (if aborted then code.Aborted else code.Other bytes)) bytes
code_choice bytes true b p q h = (tt, same bytes (codes "ok") p)
code_choice bytes false true p q h = (tt, same bytes (codes "aborted") q)
code_choice bytes false false p q h =
    ((h, record { not_ok = other bytes (codes "ok") p; not_aborted = other bytes (codes "aborted") q }), refl)

code_says : (bytes : List ℕ) → IsLetters bytes → SaysCode (code_of bytes) bytes
unfolding code_of
code_says bytes h = code_choice bytes _ _ refl refl h

code_sound : (bytes : List ℕ) (c : Code) → code_in bytes ≡ Some c → SaysCode c bytes
code_sound bytes c e =
    let parts = given (are_letters bytes) (code_of bytes) c e in
    subst (λ c. SaysCode c bytes) parts.1 (code_says bytes parts.0)

code_letters : (c : Code) → IsCode c → IsLetters (code_text c)
unfolding are_letters
code_letters code.Ok h = refl
code_letters code.Aborted h = refl
code_letters (code.Other letters) h = h.0

code_of_text : (c : Code) → IsCode c → code_of (code_text c) ≡ c
unfolding code_of
code_of_text code.Ok h = refl
code_of_text code.Aborted h = refl
code_of_text (code.Other letters) h =
    rw (differ letters (codes "ok") h.1.not_ok, differ letters (codes "aborted") h.1.not_aborted) refl

pub code_back : (c : Code) → IsCode c → code_in (code_text c) ≡ Some c
code_back c h =
    ap (λ test. if test then Some (code_of (code_text c)) else None) (code_letters c h) ∙ ap Some (code_of_text c h)

pub coded : Reads wants.Letters code_in SaysCode
coded = record {
  sound = code_sound;
  may = λ bytes c is. subst IsLetters (sym is.1) (code_letters c is.0);
  missing = λ h. h;
  none = λ bytes rest none h. not_given (are_letters bytes) (code_of bytes) none h;
}

-- a word of a table
first_of : {V : Type 0} (bytes text : List ℕ) (v w : V) (rest : Option V) (test : Bool) → bytes_eq bytes text ≡ test →
    (if test then Some v else rest) ≡ Some w → ((bytes ≡ text) × (v ≡ w)) ⊎ (rest ≡ Some w)
first_of bytes text v w rest true is e = inl (same bytes text is, cc)
first_of bytes text v w rest false is e = inr e

-- one entry of a table, and then the others
entry : {V : Type 0} (text_of : V → List ℕ) (bytes : List ℕ) (v w : V) (rest : Option V) →
    (if bytes_eq bytes (text_of v) then Some v else rest) ≡ Some w → (rest ≡ Some w → bytes ≡ text_of w) →
    bytes ≡ text_of w
entry text_of bytes v w rest e later =
    elim (first_of bytes (text_of v) v w rest (bytes_eq bytes (text_of v)) refl e) [
      | inl here ↦ here.0 ∙ ap text_of here.1
      | inr there ↦ later there
    ]

kind_sound : (bytes : List ℕ) (k : Kind) → kind_in bytes ≡ Some k → SaysKind k bytes
unfolding kind_in
kind_sound bytes k e =
    entry kind_text bytes kind.Strand k _ e (λ e. entry kind_text bytes kind.Thing k _ e
    (λ e. entry kind_text bytes kind.Op k _ e (λ e. entry kind_text bytes kind.Thread k _ e
    (λ e. entry kind_text bytes kind.Context k _ e (λ e. entry kind_text bytes kind.Lock k _ e
    (λ e. entry kind_text bytes kind.Mark k None e (λ e. absurd (cc))))))))

pub kind_back : (k : Kind) → kind_in (kind_text k) ≡ Some k
unfolding kind_in
kind_back kind.Strand = refl
kind_back kind.Thing = refl
kind_back kind.Op = refl
kind_back kind.Thread = refl
kind_back kind.Context = refl
kind_back kind.Lock = refl
kind_back kind.Mark = refl

pub kinds : Reads wants.Kind kind_in SaysKind
kinds = record {
  sound = kind_sound;
  may = λ bytes k is. (k, is);
  missing = λ h. h;
  none = λ bytes rest none h. some_none (kind_in bytes) h.0 (ap kind_in h.1 ∙ kind_back h.0) none;
}

verb_sound : (bytes : List ℕ) (v : Verb) → verb_in bytes ≡ Some v → SaysVerb v bytes
unfolding verb_in
verb_sound bytes v e =
    entry verb_text bytes verb.Call v _ e (λ e. entry verb_text bytes verb.Back v _ e
    (λ e. entry verb_text bytes verb.Done v _ e (λ e. entry verb_text bytes verb.Begin v _ e
    (λ e. entry verb_text bytes verb.End v _ e (λ e. entry verb_text bytes verb.Throw v _ e
    (λ e. entry verb_text bytes verb.Drop v _ e (λ e. entry verb_text bytes verb.Claim v _ e
    (λ e. entry verb_text bytes verb.Release v _ e (λ e. entry verb_text bytes verb.Lock v _ e
    (λ e. entry verb_text bytes verb.Unlock v _ e (λ e. entry verb_text bytes verb.Mark v _ e
    (λ e. entry verb_text bytes verb.After v _ e (λ e. entry verb_text bytes verb.Cancel v _ e
    (λ e. entry verb_text bytes verb.Work v _ e (λ e. entry verb_text bytes verb.Stop v _ e
    (λ e. entry verb_text bytes verb.Restart v None e (λ e. absurd (cc))))))))))))))))))

pub verb_back : (v : Verb) → verb_in (verb_text v) ≡ Some v
unfolding verb_in
verb_back verb.Call = refl
verb_back verb.Back = refl
verb_back verb.Done = refl
verb_back verb.Begin = refl
verb_back verb.End = refl
verb_back verb.Throw = refl
verb_back verb.Drop = refl
verb_back verb.Claim = refl
verb_back verb.Release = refl
verb_back verb.Lock = refl
verb_back verb.Unlock = refl
verb_back verb.Mark = refl
verb_back verb.After = refl
verb_back verb.Cancel = refl
verb_back verb.Work = refl
verb_back verb.Stop = refl
verb_back verb.Restart = refl

pub verbs : Reads wants.Verb verb_in SaysVerb
verbs = record {
  sound = verb_sound;
  may = λ bytes v is. (v, is);
  missing = λ h. h;
  none = λ bytes rest none h. some_none (verb_in bytes) h.0 (ap verb_in h.1 ∙ verb_back h.0) none;
}

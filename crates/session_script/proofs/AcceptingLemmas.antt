-- What is spelled is read: a reader gives what its words spell, and leaves the words after them.
use Rattle.std.proofs.Common.{◌≡◌, ℕ, Bool, true, false, List, [], ◌∷◌, Result, Ok, refl, sym, ap, subst, ◌∙◌}
use Rattle.std.specs.Str.{bytes_eq}
use Rattle.session_script.specs.declared.refusal.Rule.{Rule}
use Rattle.session_script.specs.declared.refusal.Refusal.{Refusal}
use Rattle.session_script.specs.declared.token.Position.{Position}
use Rattle.session_script.specs.Tokens.{Tokens, end, token, begins}
use Rattle.session_script.specs.Productions.{and_then, ◌>>=◌, done, judged, one, repeated}
use Rattle.session_script.specs.Text.{words_of, Words}
use Rattle.session_script.proofs.ShrinkingLemmas.{Shrinks}
use Rattle.session_script.proofs.RepeatingLemmas.{repeated_step}

pub record Accepts {A : Type 0} (P : A → Words → Words → Type 0) (r : Tokens → Result (A × Tokens) Refusal)
    : Type 0 where
  pub accepts : (a : A) (ts : Tokens) (rest : Words) → P a (words_of ts) rest →
      (left : Tokens) × (words_of left ≡ rest) × (r ts ≡ Ok (a, left))

pub weaker_accepts : {A : Type 0} (P Q : A → Words → Words → Type 0) {r : Tokens → Result (A × Tokens) Refusal} →
    ((a : A) (ws rest : Words) → Q a ws rest → P a ws rest) → Accepts P r → Accepts Q r
weaker_accepts P Q less accepts =
    record { accepts = λ a ts rest q. accepts.accepts a ts rest (less a (words_of ts) rest q) }

-- a part, and what comes after it
abbrev pub Then : {A B : Type 0} → (A → Words → Words → Type 0) → (A → B → Words → Words → Type 0) → B → Words → Words →
    Type 0
Then {A = A} P Q b ws rest = (a : A) × (mid : Words) × P a ws mid × Q a b mid rest

pub then_accepts : {A B : Type 0} {P : A → Words → Words → Type 0} {Q : A → B → Words → Words → Type 0}
    {r : Tokens → Result (A × Tokens) Refusal} {f : A → Tokens → Result (B × Tokens) Refusal} → Accepts P r →
    ((a : A) → Accepts (Q a) (f a)) → Accepts (Then P Q) (r >>= f)
then_accepts {P = P} {Q = Q} {r = r} {f = f} first next = record {
  accepts = λ b ts rest p.
      let x = first.accepts p.0 ts p.1 p.2 in
      let y = (next p.0).accepts b x.0 rest (subst (λ mid. Q p.0 b mid rest) (sym x.1) p.3) in
      (y.0, y.1, ap (λ read. and_then read f) x.2 ∙ y.2);
}

pub done_accepts : {A : Type 0} (value : A) → Accepts (λ a ws rest. (a ≡ value) × (ws ≡ rest)) (done value)
done_accepts value = record { accepts = λ a ts rest p. (ts, p.1, ap (λ v. Ok (v, ts)) (sym p.0)) }

-- one word that a test takes
abbrev pub TakesWord : {A : Type 0} → (List ℕ → Result A Rule) → A → Words → Words → Type 0
TakesWord test a ws rest = (w : List ℕ) × (test w ≡ Ok a) × (ws ≡ w ∷ rest)

one_is : {A : Type 0} (test : List ℕ → Result A Rule) (a : A) (ts : Tokens) (rest : Words) →
    TakesWord test a (words_of ts) rest → (left : Tokens) × (words_of left ≡ rest) × (one test ts ≡ Ok (a, left))
one_is test a (end at) rest p = cc (p.2)
one_is test a (token bytes at left) rest p =
    let is : test bytes ≡ Ok a = cc (p.1, p.2) in
    (left, cc (p.2), ap (λ tested. judged tested at left) is)

pub one_accepts : {A : Type 0} (test : List ℕ → Result A Rule) → Accepts (TakesWord test) (one test)
one_accepts test = record { accepts = one_is test }

-- whether the next word is this one
abbrev pub starts : List ℕ → Words → Bool
starts word [] = false
starts word (w ∷ ws) = bytes_eq w word

pub begins_starts : (word : List ℕ) (ts : Tokens) → begins word ts ≡ starts word (words_of ts)
begins_starts word (end at) = refl
begins_starts word (token bytes at rest) = refl

-- turns of a loop, as long as the next word lets it go on
pub data Turns {S : Type 0} (goes : Words → Bool) (P : S → S → Words → Words → Type 0)
    : S → S → Words → Words → Type 0 where
  over : {s : S} {ws : Words} → goes ws ≡ false → Turns goes P s s ws ws
  turn : {s after : S} {ws rest : Words} (next : S) (mid : Words) → goes ws ≡ true → P s next ws mid →
      Turns goes P next after mid rest → Turns goes P s after ws rest

module _ {S : Type 0} (more : Tokens → Bool) (goes : Words → Bool) (reader : S → Tokens → Result (S × Tokens) Refusal)
    (P : S → S → Words → Words → Type 0) (same : (ts : Tokens) → more ts ≡ goes (words_of ts))
    (ends : (at : Position) → more (end at) ≡ false) (takes : (s : S) → Shrinks (reader s))
    (reads : (s : S) → Accepts (P s) (reader s)) where
  turns_are_read : (s after : S) (ts : Tokens) (ws rest : Words) → words_of ts ≡ ws → Turns goes P s after ws rest →
      (left : Tokens) × (words_of left ≡ rest) × (repeated more reader s ts ≡ Ok (after, left))
  turns_are_read s _ ts ws _ is (over stops) =
      let none : more ts ≡ false = same ts ∙ ap goes is ∙ stops in
      (ts, is, repeated_step more reader ends takes s ts ∙ rw none refl)
  turns_are_read s after ts ws rest is (turn next mid goes_on p others) =
      let some : more ts ≡ true = same ts ∙ ap goes is ∙ goes_on in
      let x = (reads s).accepts next ts mid (subst (λ now. P s next now mid) (sym is) p) in
      let y = turns_are_read next after x.0 mid rest x.1 others in
      (y.0, y.1, repeated_step more reader ends takes s ts ∙ rw (some, x.2) y.2)

  pub repeated_accepts : (s : S) → Accepts (Turns goes P s) (repeated more reader s)
  repeated_accepts s =
      record { accepts = λ after ts rest turns. turns_are_read s after ts (words_of ts) rest refl turns }

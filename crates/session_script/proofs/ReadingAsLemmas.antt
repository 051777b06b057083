-- Words that are read as a value, up to the words after them.
use Rattle.std.proofs.Common.{◌≡◌, true, false, cond, List, ℕ, Result, Ok, refl, sym, ap, subst, ◌∙◌}
use Rattle.session_script.specs.declared.refusal.Rule.{Rule}
use Rattle.session_script.specs.declared.refusal.Refusal.{Refusal}
use Rattle.session_script.specs.Tokens.{Tokens, begins}
use Rattle.session_script.specs.Productions.{and_then, ◌>>=◌, done, one}
use Rattle.session_script.specs.Text.{words_of, Words}
use Rattle.session_script.proofs.AcceptingLemmas.{Accepts, weaker_accepts, TakesWord, one_accepts, starts, begins_starts}

-- of all tokens with these words, a reader gives this value, and leaves those with the rest
pub record ReadsAs {A : Type 0} (r : Tokens → Result (A × Tokens) Refusal) (a : A) (ws rest : Words) : Type 0 where
  pub reads : (ts : Tokens) → words_of ts ≡ ws → (left : Tokens) × (words_of left ≡ rest) × (r ts ≡ Ok (a, left))

pub by_accepts : {A : Type 0} {P : A → Words → Words → Type 0} {r : Tokens → Result (A × Tokens) Refusal} →
    Accepts P r → (a : A) (ws rest : Words) → P a ws rest → ReadsAs r a ws rest
by_accepts {P = P} accepts a ws rest p =
    record { reads = λ ts is. accepts.accepts a ts rest (subst (λ now. P a now rest) (sym is) p) }

pub accepts_by : {A : Type 0} (P : A → Words → Words → Type 0) {r : Tokens → Result (A × Tokens) Refusal} →
    ((a : A) (ws rest : Words) → P a ws rest → ReadsAs r a ws rest) → Accepts P r
accepts_by P reading = record { accepts = λ a ts rest p. (reading a (words_of ts) rest p).reads ts refl }

-- one word that a test takes as a value
pub tested_accepts : {A : Type 0} (test : List ℕ → Result A Rule) (P : A → Words → Words → Type 0) →
    ((a : A) (ws rest : Words) → P a ws rest → TakesWord test a ws rest) → Accepts P (one test)
tested_accepts test P passes = weaker_accepts (TakesWord test) P passes (one_accepts test)

-- a part, and what comes after it
pub then_reads_as : {A B : Type 0} {r : Tokens → Result (A × Tokens) Refusal} {a : A} {b : B} {ws mid rest : Words}
    (f : A → Tokens → Result (B × Tokens) Refusal) → ReadsAs r a ws mid → ReadsAs (f a) b mid rest →
    ReadsAs (r >>= f) b ws rest
then_reads_as f first next = record {
  reads = λ ts is.
      let x = first.reads ts is in
      let y = next.reads x.0 x.1 in
      (y.0, y.1, ap (λ read. and_then read f) x.2 ∙ y.2);
}

pub done_reads_as : {A : Type 0} (value : A) (ws : Words) → ReadsAs (done value) value ws ws
done_reads_as value ws = record { reads = λ ts is. (ts, is, refl) }

module _ {A : Type 0} (text : List ℕ) (value : A) (r : Tokens → Result (A × Tokens) Refusal) where
  -- a reader where the next word is this one, and else a value
  abbrev pub if_begun : Tokens → Result (A × Tokens) Refusal
  if_begun ts = cond (begins text ts) (r ts) (Ok (value, ts))

  pub begun_reads_as : (a : A) (ws rest : Words) → starts text ws ≡ true → ReadsAs r a ws rest →
      ReadsAs if_begun a ws rest
  begun_reads_as a ws rest begun reading = record {
    reads = λ ts is.
        let x = reading.reads ts is in
        let test : begins text ts ≡ true = begins_starts text ts ∙ ap (starts text) is ∙ begun in
        (x.0, x.1, ap (λ b. cond b (r ts) (Ok (value, ts))) test ∙ x.2);
  }

  pub unbegun_reads_as : (ws : Words) → starts text ws ≡ false → ReadsAs if_begun value ws ws
  unbegun_reads_as ws other = record {
    reads = λ ts is.
        let test : begins text ts ≡ false = begins_starts text ts ∙ ap (starts text) is ∙ other in
        (ts, is, ap (λ b. cond b (r ts) (Ok (value, ts))) test);
  }

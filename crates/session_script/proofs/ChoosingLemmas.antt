-- What is spelled is read by one reader or another, as the next words say.
use Rattle.std.proofs.Common.{◌≡◌, Bool, true, false, cond, ◌⊎◌, Result, Ok, inl, inr, ◌∙◌}
use Rattle.session_script.specs.declared.refusal.Refusal.{Refusal}
use Rattle.session_script.specs.Tokens.{Tokens}
use Rattle.session_script.specs.Text.{words_of, Words}
use Rattle.session_script.proofs.AcceptingLemmas.{Accepts}

-- one reader or another, by what the words begin with
abbrev pub Either : {A : Type 0} → (Words → Bool) → (A → Words → Words → Type 0) → (A → Words → Words → Type 0) → A →
    Words → Words → Type 0
Either goes P Q a ws rest = ((goes ws ≡ true) × P a ws rest) ⊎ ((goes ws ≡ false) × Q a ws rest)

module _ {A : Type 0} {P Q : A → Words → Words → Type 0} {r s : Tokens → Result (A × Tokens) Refusal}
    (test : Tokens → Bool) (goes : Words → Bool) (same : (ts : Tokens) → test ts ≡ goes (words_of ts))
    (first : Accepts P r) (second : Accepts Q s) where
  either_is : (a : A) (ts : Tokens) (rest : Words) → Either goes P Q a (words_of ts) rest →
      (left : Tokens) × (words_of left ≡ rest) × (cond (test ts) (r ts) (s ts) ≡ Ok (a, left))
  either_is a ts rest (inl p) =
      let some : test ts ≡ true = same ts ∙ p.0 in
      let x = first.accepts a ts rest p.1 in
      (x.0, x.1, rw some x.2)
  either_is a ts rest (inr p) =
      let none : test ts ≡ false = same ts ∙ p.0 in
      let x = second.accepts a ts rest p.1 in
      (x.0, x.1, rw none x.2)

  pub either_accepts : Accepts (Either goes P Q) (λ ts. cond (test ts) (r ts) (s ts))
  either_accepts = record { accepts = either_is }

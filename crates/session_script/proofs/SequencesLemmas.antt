-- One after the other, as turns of a loop that appends each.
use Rattle.std.proofs.Common.{◌≡◌, ℕ, Result, ◌<◌, ◌≤◌, ◌+◌, Bool, true, false, List, [], ◌∷◌, ◌++◌, length, sym, subst, append_assoc, arith, length-append}
use Rattle.std.specs.Prelude.{nat_le}
use Rattle.std.proofs.lemmas.Bool.Decides.{nat_tests}
use Rattle.std.proofs.lemmas.List.{append-nil}
use Rattle.session_script.specs.declared.refusal.Refusal.{Refusal}
use Rattle.session_script.specs.Tokens.{Tokens}
use Rattle.session_script.specs.Text.{Words}
use Rattle.session_script.proofs.AcceptingLemmas.{Turns, over, turn}
use Rattle.session_script.proofs.ReadingAsLemmas.{ReadsAs}

-- values that are spelled one after the other
abbrev pub Sequence : {A : Type 0} → (A → Words → Words → Type 0) → List A → Words → Words → Type 0
Sequence P [] ws rest = ws ≡ rest
Sequence P (x ∷ xs) ws rest = (mid : Words) × P x ws mid × Sequence P xs mid rest

-- as long as the limit isn't reached
pub has_room : (most so_far : ℕ) → so_far < most → nat_le most so_far ≡ false
has_room most so_far below = grind (arith, nat_tests)

-- a turn appends one more, unless there are as many as the limit
abbrev pub ReadsOneMore : {A : Type 0} → (A → Words → Words → Type 0) → ℕ →
    (List A → Tokens → Result (List A × Tokens) Refusal) → Type 0
ReadsOneMore {A = A} P limit next =
    (so_far : List A) (x : A) (ws rest : Words) → length so_far < limit → P x ws rest →
    ReadsAs (next so_far) (so_far ++ x ∷ []) ws rest

module _ {A : Type 0} (P : A → Words → Words → Type 0) (goes : Words → Bool)
    (begins : (x : A) (ws rest : Words) → P x ws rest → goes ws ≡ true) (limit : ℕ)
    (next : List A → Tokens → Result (List A × Tokens) Refusal) (appends : ReadsOneMore P limit next) where
  pub sequence_turns : (so_far xs : List A) (ws rest : Words) → length so_far + length xs ≤ limit →
      Sequence P xs ws rest → goes rest ≡ false → Turns goes (λ s. ReadsAs (next s)) so_far (so_far ++ xs) ws rest
  sequence_turns so_far [] ws rest fits is stops =
      subst (λ (now : Words). Turns goes (λ s. ReadsAs (next s)) so_far (so_far ++ []) now rest) (sym is)
      (subst (λ (after : List A). Turns goes (λ s. ReadsAs (next s)) so_far after rest rest) (sym (append-nil so_far))
      (over stops))
  sequence_turns so_far (x ∷ xs) ws rest fits p stops =
      let one : length (so_far ++ x ∷ []) ≡ length so_far + 1 = length-append so_far (x ∷ []) in
      turn (so_far ++ x ∷ []) p.0 (begins x ws p.0 p.1) (appends so_far x ws p.0 (omega arith) p.1)
      (subst (λ (after : List A). Turns goes (λ s. ReadsAs (next s)) (so_far ++ x ∷ []) after p.0 rest)
      (append_assoc so_far (x ∷ []) xs) (sequence_turns (so_far ++ x ∷ []) xs p.0 rest (omega arith) p.2 stops))

-- Reading one after the other, as a loop does.
use Rattle.std.proofs.Common.{◌≡◌, ℕ, zero, suc, ◌+◌, ◌<◌, ◌≤◌, Bool, true, false, cond, Result, Ok, Err, refl, sym, ap, ◌∙◌, add-one, arith}
use Rattle.session_script.specs.declared.refusal.Refusal.{Refusal}
use Rattle.session_script.specs.declared.refusal.ScriptFault.{ScriptFault}
use Rattle.session_script.specs.declared.refusal.ScriptFault.TheVariants as fault
use Rattle.session_script.specs.Tokens.{Tokens, end, token, token_count}
use Rattle.session_script.specs.Productions.{and_then, many, repeated}
use Rattle.session_script.specs.Outcome.{Fails}
use Rattle.session_script.proofs.ShrinkingLemmas.{Below, Shrinks}

module _ {S : Type 0} (more : Tokens → Bool) (reader : S → Tokens → Result (S × Tokens) Refusal)
    (ends : (at : _) → more (end at) ≡ false) (takes : (s : S) → Shrinks (reader s)) where
  -- with as many turns as tokens or more, it makes no difference how many
  same_then : (r : Result (S × Tokens) Refusal) (f g : S → Tokens → Result (S × Tokens) Refusal) (n : ℕ) → Below n r →
      ((s : S) (ts : Tokens) → token_count ts < n → f s ts ≡ g s ts) → and_then r f ≡ and_then r g
  same_then (Ok read) f g n below same = same read.0 read.1 below
  same_then (Err refusal) f g n below same = refl

  enough : (m n : ℕ) (s : S) (ts : Tokens) → token_count ts ≤ m → token_count ts ≤ n →
      many more reader m s ts ≡ many more reader n s ts
  enough zero zero s ts le_m le_n = refl
  enough zero (suc n) s (end at) le_m le_n = rw (ends at) refl
  enough zero (suc n) s (token bytes at rest) le_m le_n = absurd (omega arith)
  enough (suc m) zero s (end at) le_m le_n = rw (ends at) refl
  enough (suc m) zero s (token bytes at rest) le_m le_n = absurd (omega arith)
  enough (suc m) (suc n) s ts le_m le_n =
      ap (λ r. cond (more ts) r (Ok (s, ts))) (same_then (reader s ts) (many more reader m) (many more reader n)
      (token_count ts) ((takes s).below ts) (λ s' ts' lt. enough m n s' ts' (omega arith) (omega arith)))

  -- one turn
  pub repeated_step : (s : S) (ts : Tokens) →
      repeated more reader s ts ≡ cond (more ts) (and_then (reader s ts) (repeated more reader)) (Ok (s, ts))
  unfolding repeated
  repeated_step s (end at) = rw (ends at) refl
  repeated_step s (token bytes at rest) =
      rw (add-one (token_count rest))
      (ap (λ r. cond (more (token bytes at rest)) r (Ok (s, token bytes at rest))) (same_then
      (reader s (token bytes at rest)) (many more reader (token_count rest))
      (λ s' ts'. many more reader (token_count ts') s' ts') (token_count rest + 1)
      ((takes s).below (token bytes at rest))
      (λ s' ts' lt. enough (token_count rest) (token_count ts') s' ts' (omega arith) (omega arith))))

  pub goes_on : (s s' : S) (ts ts' : Tokens) (total : Result (S × Tokens) Refusal) → more ts ≡ true →
      reader s ts ≡ Ok (s', ts') → repeated more reader s ts ≡ total → repeated more reader s' ts' ≡ total
  goes_on s s' ts ts' total more_come read so_far =
      let turn : repeated more reader s ts ≡ repeated more reader s' ts' =
      repeated_step s ts ∙ rw (more_come, read) refl in
      sym turn ∙ so_far

  pub is_over : (s : S) (ts : Tokens) (total : Result (S × Tokens) Refusal) → more ts ≡ false →
      repeated more reader s ts ≡ total → total ≡ Ok (s, ts)
  is_over s ts total none_come so_far =
      let turn : repeated more reader s ts ≡ Ok (s, ts) = repeated_step s ts ∙ rw none_come refl in
      sym so_far ∙ turn

  pub breaks : (e : ScriptFault) (s : S) (ts : Tokens) (total : Result (S × Tokens) Refusal) → more ts ≡ true →
      Fails e (reader s ts) → repeated more reader s ts ≡ total → Fails e total
  breaks fault.NoMemory s ts total more_come failed so_far = tt
  breaks (fault.Refused r) s ts total more_come failed so_far =
      let turn : repeated more reader s ts ≡ Err r = repeated_step s ts ∙ rw (more_come, failed) refl in
      sym so_far ∙ turn

  -- each turn leaves fewer tokens
  pub falls : (s s' : S) (ts ts' : Tokens) → reader s ts ≡ Ok (s', ts') → token_count ts' < token_count ts
  falls s s' ts ts' read = rw read at ((takes s).below ts)

-- What holds of each act of a context.
use Rattle.std.proofs.Common.{◌≢◌, ℕ, ◌<◌, inl, inr, length, sym, ap, subst}
use Rattle.std.proofs.lemmas.Bool.{cases_lt}
use Rattle.std.proofs.lemmas.List.{get_or_past}
use Rattle.std.proofs.lemmas.List.Elements.{All-get_or}
use Rattle.std.specs.List.{All}
use Rattle.history_rules.specs.State.{ContextState, act_at, fresh, phase_at}
use Rattle.history_rules.specs.declared.phase.ActPhase.TheVariants as phase
use Rattle.history_rules.specs.declared.phase.ActState.{ActState}

-- what is asked of each act may be asked of each number
pub at_each : (P : ActState → Type 0) (s : ContextState) → P fresh → All P s.acts → (n : ℕ) → P (act_at s n)
at_each P s unborn all n = elim (cases_lt n (length s.acts)) [
  | inl within ↦ All-get_or P s.acts n fresh within all
  | inr beyond ↦ subst P (sym (get_or_past s.acts n fresh beyond)) unborn
]

-- an act that became something is one of the script's
pub is_within : (s : ContextState) (n : ℕ) → phase_at s n ≢ phase.Absent → n < length s.acts
is_within s n there = elim (cases_lt n (length s.acts)) [
  | inl within ↦ within
  | inr beyond ↦ absurd (there (ap (λ (act : ActState). act.phase) (get_or_past s.acts n fresh beyond)))
]

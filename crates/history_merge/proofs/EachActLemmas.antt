-- What holds of each act of a list beside that of another, where acts change.
use Rattle.std.proofs.Common.{◌≡◌, ℕ, List, Some, None, inl, inr, length, sym, subst, arith}
use Rattle.std.specs.List.{slice_index_or, slice_set}
use Rattle.std.proofs.lemmas.Bool.{cases_eq, cases_lt}
use Rattle.std.proofs.lemmas.List.{get_or-set_same, get_or-set_other, set_past}
use Rattle.session_script.specs.Script.{Place}
use Rattle.history_rules.specs.Calls.{progressed, with_progress}
use Rattle.history_rules.specs.State.{ContextState, act_at, fresh, phase_at}
use Rattle.history_rules.specs.declared.phase.ActState.{ActState}
use Rattle.history_rules.specs.declared.phase.Step.{Step}

-- the act at a number
abbrev pub act_in : List ActState → ℕ → ActState
act_in acts n = slice_index_or acts n fresh

-- what holds of each act of one list beside that of another is kept where both change at one place, or one alone
module _ (P : ℕ → ActState → ActState → Type 0) where
  abbrev pub Each : List ActState → List ActState → Type 0
  Each xs ys = (n : ℕ) → P n (act_in xs n) (act_in ys n)

  both_here : (xs ys : List ActState) (a : ℕ) (x y : ActState) → length ys ≡ length xs →
      P a (act_in xs a) (act_in ys a) → P a x y → P a (act_in (slice_set xs a x) a) (act_in (slice_set ys a y) a)
  both_here xs ys a x y size old new = elim (cases_lt a (length xs)) [
    | inl within ↦
        subst (λ act. P a act (act_in (slice_set ys a y) a)) (sym (get_or-set_same xs a x fresh within))
        (subst (P a x) (sym (get_or-set_same ys a y fresh (omega (arith, within, size)))) new)
    | inr beyond ↦
        subst (λ (acts : List ActState). P a (act_in acts a) (act_in (slice_set ys a y) a))
        (sym (set_past xs a x beyond))
        (subst (λ (acts : List ActState). P a (act_in xs a) (act_in acts a))
        (sym (set_past ys a y (omega (arith, beyond, size)))) old)
  ]

  pub both_set : (xs ys : List ActState) (a : ℕ) (x y : ActState) → length ys ≡ length xs → Each xs ys → P a x y →
      Each (slice_set xs a x) (slice_set ys a y)
  both_set xs ys a x y size each new n = elim (cases_eq n a) [
    | inl same ↦
        subst (λ n. P n (act_in (slice_set xs a x) n) (act_in (slice_set ys a y) n)) (sym same)
        (both_here xs ys a x y size (each a) new)
    | inr other ↦
        subst (λ act. P n act (act_in (slice_set ys a y) n)) (sym (get_or-set_other xs a n x fresh other))
        (subst (P n (act_in xs n)) (sym (get_or-set_other ys a n y fresh other)) (each n))
  ]

  right_here : (xs ys : List ActState) (a : ℕ) (y : ActState) → P a (act_in xs a) (act_in ys a) →
      P a (act_in xs a) y → P a (act_in xs a) (act_in (slice_set ys a y) a)
  right_here xs ys a y old new = elim (cases_lt a (length ys)) [
    | inl within ↦ subst (P a (act_in xs a)) (sym (get_or-set_same ys a y fresh within)) new
    | inr beyond ↦
        subst (λ (acts : List ActState). P a (act_in xs a) (act_in acts a)) (sym (set_past ys a y beyond)) old
  ]

  pub right_set : (xs ys : List ActState) (a : ℕ) (y : ActState) → Each xs ys → P a (act_in xs a) y →
      Each xs (slice_set ys a y)
  right_set xs ys a y each new n = elim (cases_eq n a) [
    | inl same ↦
        subst (λ n. P n (act_in xs n) (act_in (slice_set ys a y) n)) (sym same) (right_here xs ys a y (each a) new)
    | inr other ↦ subst (P n (act_in xs n)) (sym (get_or-set_other ys a n y fresh other)) (each n)
  ]

  -- and where a body comes further
  pub progress_each : ((n : ℕ) (step : Step) (x y : ActState) → P n x y → P n x (record y { phase = progressed step y.phase })) →
      (place : Place) (step : Step) (xs : List ActState) (t : ContextState) → Each xs t.acts →
      Each xs (with_progress place step t).acts
  progress_each keeps None step xs t each = each
  progress_each keeps (Some at) step xs t each =
      right_set xs t.acts at.0 (record (act_at t at.0) { phase = progressed step (phase_at t at.0) }) each
      (keeps at.0 step (act_in xs at.0) (act_at t at.0) (each at.0))

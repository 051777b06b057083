-- Where the outstanding work is what the reactor has to complete and the guards, no handler is ready or runs and no
-- request waits.
use Rattle.std.proofs.Common.{◌≡◌, ℕ, zero, suc, ◌+◌, ◌<◌, Bool, true, false, not, ◌&&◌, ◌||◌, cond, inl, inr, length, refl, ap, ◌∙◌, arith}
use Rattle.std.proofs.lemmas.Bool.{cases_eq, cases_lt}
use Rattle.std.proofs.lemmas.List.{get_or_past}
use Rattle.history_rules.specs.Order.{was_taken}
use Rattle.history_rules.specs.Rounds.{AllQuiet, is_act_outstanding, is_outstanding, is_quiet, is_running, outstanding_work}
use Rattle.history_rules.specs.State.{State, fresh, phase_at}
use Rattle.history_rules.specs.declared.phase.ActState.{ActState}
use Rattle.history_rules.specs.Time.{pending_count}
use Rattle.history_rules.specs.declared.phase.ActPhase.{ActPhase}
use Rattle.history_rules.specs.declared.phase.ActPhase.TheVariants as phase
use Rattle.lane_logs.specs.Half.{held_guards}
use Rattle.execution_laws.specs.Rest.{waits_inside}
use Rattle.execution_laws.specs.Work.{is_pending, is_requested, pending_acts}
use Rattle.execution_laws.proofs.CountingLemmas.{counted, counted-either, counted-range, counted-same}

-- outstanding by itself, and not since the reactor has it to complete
abbrev pub is_busy : ActPhase → Bool → Bool
is_busy of taken = is_outstanding of taken && not (is_requested of && taken)

parted : (of : ActPhase) (taken : Bool) → is_outstanding of taken ≡ ((is_requested of && taken) || is_busy of taken)
parted phase.Absent taken = refl
parted phase.Inside taken = refl
parted phase.Requested true = refl
parted phase.Requested false = refl
parted phase.Asked true = refl
parted phase.Asked false = refl
parted (phase.Ready code size why) taken = refl
parted (phase.Running class progress) taken = refl
parted phase.Ended taken = refl
parted phase.Dropped taken = refl

parted_alone : (of : ActPhase) (taken : Bool) → (is_requested of && taken) ≡ true → is_busy of taken ≡ true → ⊥
parted_alone phase.Requested true pending busy = absurd (cc)
parted_alone phase.Requested false pending busy = absurd (cc)
parted_alone of taken pending busy = absurd (cc)

-- a count of none
none_passes : (test : ℕ → Bool) (n : ℕ) → counted test n ≡ 0 → (m : ℕ) → m < n → test m ≡ false
none_passes test zero none m less = absurd (omega (arith, less))
none_passes test (suc n) none m less = elim (cases_eq m n) [
  | inl same ↦ ap test same ∙ is_none (test n) (λ is. let one : cond (test n) 1 0 ≡ suc 0 = ap (λ (b : Bool). cond b 1 0) is in omega (arith, none, one))
  | inr other ↦ none_passes test n (omega (arith, none)) m (omega (arith, less, other))
]
  where
    is_none : (b : Bool) → (b ≡ true → ⊥) → b ≡ false
    is_none true never = absurd (never refl)
    is_none false never = refl

module _ (s : State) (pending : pending_acts s ≡ pending_count s.reactor)
    (work : outstanding_work s ≡ pending_count s.reactor + held_guards s.reactor) where
  abbrev busy_at : ℕ → Bool
  busy_at n = is_busy (phase_at s.context n) (was_taken s.reactor n)

  none_busy : counted busy_at (length s.context.acts) ≡ 0
  none_busy =
      let acts = length s.context.acts in
      let all = counted-range (is_act_outstanding s) acts in
      let has = counted-range (is_pending s) acts in
      let same = counted-same (is_act_outstanding s) (λ n. is_pending s n || busy_at n) acts
      (λ n. parted (phase_at s.context n) (was_taken s.reactor n)) in
      let both = counted-either (is_pending s) busy_at acts
      (λ n. parted_alone (phase_at s.context n) (was_taken s.reactor n)) in
      omega (arith, all, has, same, both, pending, work)

  pub not_busy : (n : ℕ) → is_busy (phase_at s.context n) (was_taken s.reactor n) ≡ false
  not_busy n = elim (cases_lt n (length s.context.acts)) [
    | inl within ↦ none_passes busy_at (length s.context.acts) none_busy n within
    | inr beyond ↦
        ap (λ (act : ActState). is_busy act.phase (was_taken s.reactor n)) (get_or_past s.context.acts n fresh beyond)
  ]

-- what isn't busy is quiet, and neither runs nor waits inside its call
quiet_by : (of : ActPhase) (taken : Bool) → is_busy of taken ≡ false → is_quiet of taken ≡ true
quiet_by phase.Absent taken isnt = refl
quiet_by phase.Inside taken isnt = refl
quiet_by phase.Requested true isnt = refl
quiet_by phase.Requested false isnt = absurd (cc)
quiet_by phase.Asked true isnt = refl
quiet_by phase.Asked false isnt = absurd (cc)
quiet_by (phase.Ready code size why) taken isnt = absurd (cc)
quiet_by (phase.Running class progress) taken isnt = absurd (cc)
quiet_by phase.Ended taken isnt = refl
quiet_by phase.Dropped taken isnt = refl

still_by : (of : ActPhase) (taken : Bool) → is_busy of taken ≡ false → is_running of ≡ false
still_by (phase.Running class progress) taken isnt = absurd (cc)
still_by of taken isnt = refl

outside_by : (of : ActPhase) (taken : Bool) → is_busy of taken ≡ false → waits_inside of ≡ false
outside_by phase.Inside taken isnt = absurd (cc)
outside_by of taken isnt = refl

pub record IsQuietState (s : State) : Type 0 where
  pub quiet : AllQuiet s
  pub still : (n : ℕ) → is_running (phase_at s.context n) ≡ false
  pub outside : (n : ℕ) → waits_inside (phase_at s.context n) ≡ false

pub is_quiet_state : (s : State) → pending_acts s ≡ pending_count s.reactor →
    outstanding_work s ≡ pending_count s.reactor + held_guards s.reactor → IsQuietState s
is_quiet_state s pending work = record {
  quiet = λ n. quiet_by (phase_at s.context n) (was_taken s.reactor n) (not_busy s pending work n);
  still = λ n. still_by (phase_at s.context n) (was_taken s.reactor n) (not_busy s pending work n);
  outside = λ n. outside_by (phase_at s.context n) (was_taken s.reactor n) (not_busy s pending work n);
}

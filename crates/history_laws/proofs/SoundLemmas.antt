-- Each event that may happen keeps a state sound.
use Rattle.std.proofs.Common.{◌≡◌, ◌⊎◌, ℕ, ◌+◌, ◌<◌, ◌≤◌, Bool, true, false, cond, List, Some, None, inl, inr, length, get_or, refl, sym, ap, subst, ◌∙◌, arith}
use Rattle.std.specs.List.{count_by, range_with_len}
use Rattle.std.specs.Prelude.{slice_get}
use Rattle.std.proofs.lemmas.Bool.{cases_Bool}
use Rattle.std.proofs.lemmas.List.{length-set}
use Rattle.std.proofs.lemmas.List.FromFn.{get_or-range_with_len, length-range_with_len}
use Rattle.std.proofs.lemmas.List.Sums.{get_or-le-sum_by}
use Rattle.asio_types.specs.declared.event.Event.{Event}
use Rattle.asio_types.specs.declared.event.Event.TheVariants as event
use Rattle.asio_types.specs.declared.number.Lane.{Lane}
use Rattle.session_script.specs.Script.{Place, ScriptModel, parent_of}
use Rattle.session_script.specs.WellFormed.{IsWellFormed}
use Rattle.history_rules.specs.Calls.{MayStop, after_stop, stopping}
use Rattle.history_rules.specs.Executions.{MayEnd, after_end}
use Rattle.history_rules.specs.Legal.{after_event}
use Rattle.history_rules.specs.Order.{was_taken}
use Rattle.history_rules.specs.Rounds.{AllClosed, RoundIsOpen, is_outstanding, is_quiet, is_running}
use Rattle.history_rules.specs.State.{ContextState, ReactorHalf, State, act_at, call_at, phase_at}
use Rattle.history_rules.specs.Stopping.{spend}
use Rattle.history_rules.specs.declared.phase.ActPhase.{ActPhase}
use Rattle.history_rules.specs.declared.phase.ActPhase.TheVariants as phase
use Rattle.history_rules.specs.declared.phase.CallPhase.TheVariants as call
use Rattle.history_rules.specs.declared.phase.Progress.{Progress}
use Rattle.history_laws.specs.Events.{is_begin_of, is_call_of, is_completion_of, is_drop_of}
use Rattle.history_laws.proofs.BodyLemmas.{body_of}
use Rattle.history_laws.proofs.CountLemmas.{one_if}
use Rattle.history_laws.proofs.GoingLemmas.{ahead_moved, calls_moved, dropped_moved, open_moved, pend_moved, quiet_moved, uncalled_moved}
use Rattle.history_laws.proofs.KindLemmas.{kind_moved}
use Rattle.history_laws.proofs.Moves.{Moves, is_calling, stays}
use Rattle.history_laws.proofs.MovingLemmas.{moves_end, moves_stop}
use Rattle.history_laws.proofs.Sound.{Calls, IsAhead, IsDone, IsSound, may_pend, pending_of}
use Rattle.history_laws.proofs.StepLemmas.{IsLimited}

-- an event that isn't a call makes none
no_calling : (n : ℕ) (e : Event) → is_calling e ≡ false → is_call_of n e ≡ false
no_calling n (event.Call a) isnt = absurd (cc)
no_calling n _ isnt = refl

-- what is pending may be
pub pend_phase : (p : ActPhase) (taken : Bool) → 1 ≤ one_if (may_pend p taken) →
    (p ≡ phase.Requested) ⊎ (p ≡ phase.Dropped)
pend_phase phase.Requested taken some = inl refl
pend_phase phase.Dropped taken some = inr refl
pend_phase phase.Absent taken some = absurd (omega (arith, some))
pend_phase phase.Inside taken some = absurd (omega (arith, some))
pend_phase (phase.Ready given size why) taken some = absurd (omega (arith, some))
pend_phase (phase.Running class progress) taken some = absurd (omega (arith, some))
pend_phase phase.Ended taken some = absurd (omega (arith, some))
pend_phase phase.Asked taken some = absurd (omega (arith, some))

pub quiet_running : (p : ActPhase) (taken : Bool) → is_quiet p taken ≡ true → is_running p ≡ false
quiet_running (phase.Running class progress) taken quiet = absurd (cc)
quiet_running phase.Absent taken quiet = refl
quiet_running phase.Inside taken quiet = refl
quiet_running phase.Requested taken quiet = refl
quiet_running (phase.Ready given size why) taken quiet = refl
quiet_running phase.Ended taken quiet = refl
quiet_running phase.Dropped taken quiet = refl
quiet_running phase.Asked taken quiet = refl

pub spent_running : (p : ActPhase) (taken : Bool) → is_outstanding p taken ≡ false → is_running p ≡ false
spent_running (phase.Running class progress) taken spent = absurd (cc)
spent_running phase.Absent taken spent = refl
spent_running phase.Inside taken spent = refl
spent_running phase.Requested taken spent = refl
spent_running (phase.Ready given size why) taken spent = refl
spent_running phase.Ended taken spent = refl
spent_running phase.Dropped taken spent = refl
spent_running phase.Asked taken spent = refl

pub one_none : (b : Bool) → one_if b ≤ 0 → b ≡ false
one_none true less = absurd (omega (arith, less))
one_none false less = refl

pub none_passes : (test : ℕ → Bool) (m n : ℕ) → count_by test (range_with_len 0 m) ≡ 0 → n < m → test n ≡ false
none_passes test m n none within =
    let xs : List ℕ = range_with_len 0 m in
    let at : get_or xs n 0 ≡ n = get_or-range_with_len 0 m n 0 within ∙ omega arith in
    let less = get_or-le-sum_by (λ n. cond (test n) 1 0) xs n 0 (omega (arith, within, length-range_with_len 0 m)) in
    let here : one_if (test (get_or xs n 0)) ≡ one_if (test n) = ap (λ n. one_if (test n)) at in
    one_none (test n) (omega (arith, less, none, here))

-- nothing changes but the allowances, where a handler begins
pub spent_by : (inline : Bool) (lane : Lane) (c : ContextState) → IsLimited c (cond inline c (spend lane c))
spent_by true lane c = record {
  acts = refl;
  opening = refl;
  closings = refl;
  dropping = refl;
  stopped = refl;
  restarted = refl;
  events = refl;
  turn = refl;
}
spent_by false lane c = record {
  acts = refl;
  opening = refl;
  closings = refl;
  dropping = refl;
  stopped = refl;
  restarted = refl;
  events = refl;
  turn = refl;
}

module _ (script : ScriptModel) (well : IsWellFormed script) (told : Bool) (s : State) (sound : IsSound script s) where
  abbrev pub c : ContextState
  c = s.context

  abbrev pub r : ReactorHalf
  r = s.reactor

  abbrev pub IsEnding : State → Type 0
  IsEnding s = AllClosed script s.context ⊎ (s.reactor.failed ≡ true)

  -- what an event owes that makes no call and brings none back
  pub record IsStep (e : Event) (t : State) : Type 0 where
    pub moves : (n : ℕ) → Moves script n e (act_at c n) (act_at t.context n)
    pub acts : length t.context.acts ≡ length c.acts
    pub takes : length t.reactor.taken ≡ length r.taken
    pub opening : t.context.opening ≡ c.opening
    pub pending : (n : ℕ) → pending_of n t.reactor ≤ one_if (may_pend (phase_at t.context n) (was_taken t.reactor n))
    pub closed : AllClosed script t.context → IsDone t
    pub ending : IsEnding s → IsEnding t
    pub dropping : c.dropping ≡ true → t.context.dropping ≡ true
    pub drops : (n : ℕ) → is_drop_of n e ≡ true → IsEnding t × (t.context.dropping ≡ true)

  pub dropped_by : (e : Event) (t : State) → ((n : ℕ) → Moves script n e (act_at c n) (act_at t.context n)) →
      (IsEnding s → IsEnding t) → (c.dropping ≡ true → t.context.dropping ≡ true) →
      ((n : ℕ) → is_drop_of n e ≡ true → IsEnding t × (t.context.dropping ≡ true)) → (n : ℕ) →
      phase_at t.context n ≡ phase.Dropped → IsEnding t × (t.context.dropping ≡ true)
  dropped_by e t moves ending dropping drops n is = elim (cases_Bool (is_drop_of n e)) [
    | inl yes_drop ↦ drops n yes_drop
    | inr never ↦
        let was = sound.dropped n (dropped_moved script n e (act_at c n) (act_at t.context n) (moves n) never is) in
        (ending was.0, dropping was.1)
  ]

  pub ahead_before : (e : Event) (t : ContextState) → ((n : ℕ) → Moves script n e (act_at c n) (act_at t n)) →
      c.opening.made ≤ t.opening.made → (place : Place) (k : ℕ) → IsAhead t place k → IsAhead c place k
  ahead_before e t moves less None k ahead = omega (arith, less, ahead)
  ahead_before e t moves less (Some at) k ahead =
      ahead_moved script at.0 at.1 k e (act_at c at.0) (act_at t at.0) (moves at.0) ahead

  pub bodies_by : (e : Event) (t : ContextState) → ((n : ℕ) → Moves script n e (act_at c n) (act_at t n)) →
      c.opening.made ≤ t.opening.made →
      ((place : Place) (n k : ℕ) → slice_get (body_of script place) k ≡ Some n → IsAhead t place k →
      is_call_of n e ≡ false) → (place : Place) (n k : ℕ) → slice_get (body_of script place) k ≡ Some n →
      IsAhead t place k → call_at t n ≡ call.Uncalled
  bodies_by e t moves less never place n k at ahead =
      uncalled_moved script n e (act_at c n) (act_at t n) (moves n) (never place n k at ahead)
      (sound.bodies place n k at (ahead_before e t moves less place k ahead))

  pub calls_kept : (e : Event) (t : ContextState) → ((n : ℕ) → Moves script n e (act_at c n) (act_at t n)) →
      is_calling e ≡ false → t.opening ≡ c.opening → (place : Place) (n : ℕ) → Calls script c place n →
      Calls script t place n
  calls_kept e t moves never opening None n calls =
      subst (λ (p : Progress). (slice_get (body_of script None) p.back ≡ Some n) × (p.made ≡ p.back + 1)) (sym opening) calls
  calls_kept e t moves never opening (Some at) n calls =
      calls_moved script at.0 (body_of script (Some at)) at.1 n e (act_at c at.0) (act_at t at.0) (moves at.0) never calls

  pub sound_by : (e : Event) (t : State) → is_calling e ≡ false → IsStep e t → IsSound script t
  sound_by e t never step = record {
    acts = step.acts ∙ sound.acts;
    takes = step.takes ∙ sound.takes;
    kinds = λ n. kind_moved script n e (act_at c n) (act_at t.context n) (step.moves n) (sound.kinds n);
    bodies =
        bodies_by e t.context step.moves
        (let same = ap (λ (p : Progress). p.made) step.opening in omega (arith, same))
        (λ place n k at ahead. no_calling n e never);
    calls = λ n is.
        calls_kept e t.context step.moves never step.opening (parent_of script n) n
        (sound.calls n (open_moved script n e (act_at c n) (act_at t.context n) (step.moves n) (no_calling n e never) is));
    pending = step.pending;
    closed = step.closed;
    dropped = dropped_by e t step.moves step.ending step.dropping step.drops;
  }

  -- an event of the context alone keeps what is pending
  pub pending_by : (e : Event) (t : ContextState) → ((n : ℕ) → Moves script n e (act_at c n) (act_at t n)) →
      ((n : ℕ) → is_completion_of n e ≡ false) → (n : ℕ) →
      pending_of n r ≤ one_if (may_pend (phase_at t n) (was_taken r n))
  pending_by e t moves never n =
      let less = pend_moved script n (was_taken r n) e (act_at c n) (act_at t n) (moves n) (never n) in
      omega (arith, less, sound.pending n)

  pub done_by : (e : Event) (t : ContextState) → ((n : ℕ) → Moves script n e (act_at c n) (act_at t n)) →
      ((n : ℕ) → is_begin_of n e ≡ false) → t.turn ≡ c.turn → IsDone s →
      IsDone (record { context = t; reactor = r })
  done_by e t moves never turn done = record {
    quiet = λ n. quiet_moved script n e (act_at c n) (act_at t n) (moves n) (never n) (done.quiet n);
    told = done.told;
    turn = turn ∙ done.turn;
  }

  -- a step of the context alone, which begins and destroys nothing
  pub plain_step : (e : Event) (t : ContextState) → ((n : ℕ) → Moves script n e (act_at c n) (act_at t n)) →
      ((n : ℕ) → is_completion_of n e ≡ false) → ((n : ℕ) → is_begin_of n e ≡ false) →
      ((n : ℕ) → is_drop_of n e ≡ false) → length t.acts ≡ length c.acts → t.opening ≡ c.opening → t.turn ≡ c.turn →
      t.closings ≡ c.closings → t.dropping ≡ c.dropping → IsStep e (record { context = t; reactor = r })
  plain_step e t moves completes begins drops acts opening turn closings dropping = record {
    moves = moves;
    acts = acts;
    takes = refl;
    opening = opening;
    pending = pending_by e t moves completes;
    closed = λ all. done_by e t moves begins turn (sound.closed (sym closings ∙ all));
    ending = λ ending. elim ending [ inl all ↦ inl (closings ∙ all) | inr failed ↦ inr failed ];
    dropping = λ is. dropping ∙ is;
    drops = λ n is. absurd (let wrong : true ≡ false = sym is ∙ drops n in cc);
  }

  pub closed_round : RoundIsOpen script c → AllClosed script c → ⊥
  closed_round round all = absurd (omega (arith, round.begun.left, all))

  pub sound_stop : (a : ℕ) → MayStop script c a → IsSound script (after_event script told s (event.Stop (Some a)))
  sound_stop a may =
      sound_by (event.Stop (Some a)) (after_event script told s (event.Stop (Some a))) refl
      (plain_step (event.Stop (Some a)) (after_stop c a) (moves_stop script well told s sound a may) (λ n. refl) (λ n. refl)
      (λ n. refl) (length-set c.acts a (record (act_at c a) { call = stopping (call_at c a) })) refl refl refl refl)

  pub sound_outside : IsSound script (after_event script told s (event.Stop None))
  sound_outside =
      sound_by (event.Stop None) (after_event script told s (event.Stop None)) refl
      (plain_step (event.Stop None) (record c { stopped = true }) (λ n. stays refl) (λ n. refl) (λ n. refl) (λ n. refl)
      refl refl refl refl refl)

  pub sound_end : (o mark : ℕ) → MayEnd script c o → IsSound script (after_event script told s (event.End o mark))
  sound_end o mark may =
      sound_by (event.End o mark) (after_event script told s (event.End o mark)) refl
      (plain_step (event.End o mark) (after_end c o) (moves_end script well told s sound o mark may) (λ n. refl) (λ n. refl)
      (λ n. refl) (length-set c.acts o (record (act_at c o) { phase = phase.Ended })) refl refl refl refl)

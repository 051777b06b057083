-- In what is legal and expected each act is called once.
use Rattle.std.proofs.Common.{◌≡◌, ℕ, ◌+◌, ◌<◌, ◌≤◌, Bool, true, false, List, [], ◌∷◌, None, Some, inl, inr, length, refl, sym, ap, subst, ◌∙◌, arith}
use Rattle.std.specs.List.{slice_set}
use Rattle.std.specs.Option.{unwrap_or}
use Rattle.std.proofs.lemmas.Bool.{cases_eq, eq-eqb, ne_eqb}
use Rattle.std.proofs.lemmas.List.{length-replicate}
use Rattle.asio_types.specs.Code.{class_of_code}
use Rattle.asio_types.specs.Faults.{most_faults}
use Rattle.asio_types.specs.declared.event.Event.{Event}
use Rattle.asio_types.specs.declared.event.Event.TheVariants as event
use Rattle.session_script.specs.Lanes.{is_inline, lane_of}
use Rattle.session_script.specs.Script.{Place, ScriptModel, is_stop, parent_of}
use Rattle.session_script.specs.WellFormed.{IsWellFormed}
use Rattle.history_rules.specs.Calls.{accepted, progressed, returned, stopping, with_progress}
use Rattle.history_rules.specs.Executions.{begun}
use Rattle.history_rules.specs.Kinds.{is_act}
use Rattle.history_rules.specs.Legal.{MayHappen, after_event, context_after, state_from}
use Rattle.history_rules.specs.State.{ContextState, State, act_at, call_at, first_state, fresh, no_progress, phase_at, with_call, with_phase}
use Rattle.history_rules.specs.declared.phase.ActPhase.{ActPhase}
use Rattle.history_rules.specs.declared.phase.ActPhase.TheVariants as phase
use Rattle.history_rules.specs.declared.phase.ActState.{ActState}
use Rattle.history_rules.specs.declared.phase.CallPhase.TheVariants as call
use Rattle.history_rules.specs.declared.phase.Cause.TheVariants as cause
use Rattle.history_rules.specs.declared.phase.Step.{Step}
use Rattle.history_rules.specs.declared.phase.Step.TheVariants as step
use Rattle.lane_logs.specs.Drops.{is_call_of}
use Rattle.execution_laws.specs.Kinds.{was_called}
use Rattle.reactor_turns.proofs.SummingLemmas.{one_if}
use Rattle.history_merge.proofs.CountedLemmas.{counted_is, counted_most}
use Rattle.history_merge.proofs.EachActLemmas.{Each, right_set}
use Rattle.history_merge.proofs.EventOrderLemmas.{in_order}
use Rattle.history_merge.proofs.FrameLemmas.{acts_limited, acts_spent, called_act}
use Rattle.history_merge.proofs.KindLemmas.{called_returned, called_stopping}
use Rattle.history_merge.proofs.NextCallLemmas.{uncalled_next}
use Rattle.history_merge.proofs.OrderlyLemmas.{IsActInOrder, IsExpected, IsInOrder}
use Rattle.history_merge.proofs.SoloLemmas.{all_fresh}
use Rattle.history_merge.proofs.TimesLemmas.{times}

-- each event may happen where it comes, and is expected there
abbrev pub AreExpected : ScriptModel → Bool → State → List Event → Type 0
AreExpected script told s [] = Unit {0}
AreExpected script told s (shown ∷ events) =
    MayHappen script told s shown × IsExpected s.context shown
    × AreExpected script told (after_event script told s shown) events

-- how often an act is called
abbrev pub calls_of : ℕ → List Event → ℕ
calls_of act events = times (is_call_of act) events

-- an act that was called stays so
pub record StaysCalled (n : ℕ) (x y : ActState) : Type 0 where
  pub still : was_called x.call ≡ true → was_called y.call ≡ true

module _ (script : ScriptModel) (s : ContextState) where
  base_called : Each StaysCalled s.acts s.acts
  base_called n = record { still = λ is. is }

  set_called : (ys : List ActState) (a : ℕ) (y : ActState) → Each StaysCalled s.acts ys →
      (was_called (call_at s a) ≡ true → was_called y.call ≡ true) → Each StaysCalled s.acts (slice_set ys a y)
  set_called ys a y each still = right_set StaysCalled s.acts ys a y each (record { still = still })

  progress_called : (place : Place) (step : Step) (t : ContextState) → Each StaysCalled s.acts t.acts →
      Each StaysCalled s.acts (with_progress place step t).acts
  progress_called None step t each = each
  progress_called (Some at) step t each =
      set_called t.acts at.0 (record (act_at t at.0) { phase = progressed step (phase_at t at.0) }) each (each at.0).still

  phase_called : (o : ℕ) (to : ActPhase) → Each StaysCalled s.acts (with_phase s o to).acts
  phase_called o to = set_called s.acts o (record (act_at s o) { phase = to }) base_called (λ is. is)

  pub stay_called : (shown : Event) → Each StaysCalled s.acts (context_after script s shown).acts
  stay_called (event.Call a) =
      set_called (with_progress (parent_of script a) step.Made s).acts a
      (record { call = call.Open s.events; phase = accepted script a })
      (progress_called (parent_of script a) step.Made s base_called) (λ is. refl)
  stay_called (event.Stop (Some a)) =
      set_called s.acts a (record (act_at s a) { call = stopping (call_at s a) }) base_called
      (λ is. called_stopping (call_at s a) ∙ is)
  stay_called (event.Back a) =
      let back : ContextState = with_call s a (returned s.events (call_at s a)) in
      subst (Each StaysCalled s.acts)
      (sym (acts_limited script (parent_of script a) a (is_act is_stop script a)
      (with_progress (parent_of script a) step.Back back)))
      (progress_called (parent_of script a) step.Back back
      (set_called s.acts a (record (act_at s a) { call = returned s.events (call_at s a) }) base_called
      (λ is. called_returned s.events (call_at s a) ∙ is)))
  stay_called (event.Begin o given size) =
      subst (Each StaysCalled s.acts)
      (sym (acts_spent (is_inline script o) (lane_of script o) (begun s o given)))
      (phase_called o (phase.Running (class_of_code given) no_progress))
  stay_called (event.End o mark) = phase_called o phase.Ended
  stay_called (event.Done o given size) =
      phase_called o (phase.Ready given size (cause.Completed s.events (unwrap_or s.turn 0)))
  stay_called (event.Dropped o mark) = phase_called o phase.Dropped
  stay_called (event.Stop None) = base_called
  stay_called other = base_called

rises : (was now : Bool) → (was ≡ true → now ≡ true) → one_if was ≤ one_if now
rises true now still = let is = ap one_if (still refl) in omega (arith, is)
rises false true still = omega arith
rises false false still = omega arith

module _ (script : ScriptModel) (well : IsWellFormed script) (told : Bool) (act : ℕ)
    (within : act < length script.acts) where
  -- whether it was called
  abbrev has_called : State → Bool
  has_called s = was_called (call_at s.context act)

  -- a call of it is the first, and after it it was called
  call_counts : (s : State) (shown : Event) → IsInOrder script s.context → MayHappen script told s shown →
      one_if (is_call_of act shown) + one_if (has_called s) ≤ one_if (has_called (after_event script told s shown))
  call_counts s (event.Call a) order may = elim (cases_eq a act) [
    | inl same ↦
        let calls : one_if (is_call_of act (event.Call a)) ≡ 1 = ap one_if (eq-eqb a act same) in
        let was : one_if (has_called s) ≡ 0 =
        ap (λ c. one_if (was_called c))
        (subst (λ n. call_at s.context n ≡ call.Uncalled) same
        (uncalled_next script well s.context order s.reactor.failed a may)) in
        let now : one_if (has_called (after_event script told s (event.Call a))) ≡ 1 =
        ap (λ (x : ActState). one_if (was_called x.call))
        (subst (λ n. act_at (context_after script s.context (event.Call a)) n
        ≡ record { call = call.Open s.context.events; phase = accepted script a }) same
        (called_act script s.context a (omega (arith, same, within, order.size)))) in
        omega (arith, calls, was, now)
    | inr other ↦
        let none : one_if (is_call_of act (event.Call a)) ≡ 0 = ap one_if (ne_eqb a act other) in
        let more =
        rises (has_called s) (has_called (after_event script told s (event.Call a)))
        (stay_called script s.context (event.Call a) act).still in
        omega (arith, none, more)
  ]
  call_counts s other order may =
      let more =
      rises (has_called s) (has_called (after_event script told s other)) (stay_called script s.context other act).still in
      omega (arith, more)

  -- so an act is called once
  pub called_once : (s : State) (events : List Event) → IsInOrder script s.context →
      s.context.events + length events < most_faults → AreExpected script told s events →
      calls_of act events + one_if (has_called s) ≤ one_if (has_called (state_from script told s events))
  called_once s [] order room are = omega arith
  called_once s (shown ∷ events) order room are =
      let next : State = after_event script told s shown in
      let one : next.context.events ≤ s.context.events + 1 =
      let is = counted_is script told s (shown ∷ []) (omega (arith, room)) in
      let most = counted_most (shown ∷ []) in omega (arith, is, most) in
      let rest =
      called_once next events
      (in_order script well told s order (omega (arith, room)) shown are.0 are.1) (omega (arith, room, one)) are.2 in
      let now = call_counts s shown order are.0 in
      omega (arith, rest, now)

-- before the first event all acts are in order
pub first_order : (script : ScriptModel) (told : Bool) → IsInOrder script (first_state script told).context
first_order script told =
    let fresh_at : (n : ℕ) → act_at (first_state script told).context n ≡ fresh = all_fresh (length script.acts) in
    record {
      size = length-replicate (length script.acts) fresh;
      acts = λ n.
          subst (IsActInOrder 0) (sym (fresh_at n)) (record { called = tt; caused = tt; absent = λ uncalled. refl });
      turn = omega arith;
      made = λ place k n at called. absurd (called (ap (λ (act : ActState). act.call) (fresh_at n)));
    }

-- in a history that is legal and expected, however long
pub called_at_most : (script : ScriptModel) (well : IsWellFormed script) (told : Bool) (act : ℕ) →
    act < length script.acts → (events : List Event) → length events < most_faults →
    AreExpected script told (first_state script told) events → calls_of act events ≤ 1
called_at_most script well told act within events room are =
    let once =
    called_once script well told act within (first_state script told) events (first_order script told)
    (omega (arith, room)) are in
    let most = at_most (was_called (call_at (state_from script told (first_state script told) events).context act)) in
    omega (arith, once, most)
  where
    at_most : (b : Bool) → one_if b ≤ 1
    at_most true = omega arith
    at_most false = omega arith

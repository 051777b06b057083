-- A handler that has begun was shown to begin.
use Rattle.std.proofs.Common.{◌≡◌, ℕ, ◌+◌, ◌<◌, ◌≤◌, Bool, true, false, cond, List, [], ◌∷◌, None, Some, inl, inr, length, refl, sym, ap, ◌∙◌, arith}
use Rattle.std.specs.Option.{unwrap_or}
use Rattle.std.proofs.lemmas.Bool.{cases_eq, eq-eqb, ne_eqb}
use Rattle.asio_types.specs.Faults.{most_faults}
use Rattle.asio_types.specs.declared.code.Code.TheVariants as code
use Rattle.asio_types.specs.declared.event.Event.{Event}
use Rattle.asio_types.specs.declared.event.Event.TheVariants as event
use Rattle.session_script.specs.Lanes.{is_inline}
use Rattle.session_script.specs.Script.{ScriptModel, is_operation}
use Rattle.session_script.specs.WellFormed.{IsWellFormed}
use Rattle.history_rules.specs.Calls.{progressed}
use Rattle.history_rules.specs.Executions.{has_finished}
use Rattle.history_rules.specs.Kinds.{is_act, is_control, is_posting}
use Rattle.history_rules.specs.Legal.{MayHappen, after_event, context_after, state_from}
use Rattle.history_rules.specs.State.{State, phase_at}
use Rattle.history_rules.specs.declared.phase.ActPhase.{ActPhase}
use Rattle.history_rules.specs.declared.phase.ActPhase.TheVariants as phase
use Rattle.history_rules.specs.declared.phase.ActState.{ActState}
use Rattle.history_rules.specs.declared.phase.Cause.TheVariants as cause
use Rattle.history_rules.specs.declared.phase.Step.{Step}
use Rattle.lane_logs.specs.LaneLog.{is_begin_of}
use Rattle.execution_laws.specs.Order.{has_begun}
use Rattle.execution_laws.proofs.RestLemmas.{is_within}
use Rattle.reactor_turns.proofs.SummingLemmas.{one_if}
use Rattle.history_merge.proofs.CalledLemmas.{AreExpected}
use Rattle.history_merge.proofs.CountedLemmas.{counted_is, counted_most}
use Rattle.history_merge.proofs.EachActLemmas.{Each}
use Rattle.history_merge.proofs.EventOrderLemmas.{in_order, to_begin}
use Rattle.history_merge.proofs.FrameLemmas.{begun_act}
use Rattle.history_merge.proofs.NextCallLemmas.{fresh_next}
use Rattle.history_merge.proofs.OrderlyLemmas.{IsExpected, IsInOrder}
use Rattle.history_merge.proofs.TestLemmas.{IsSame, back_same, base_same, begin_same, call_same, phase_same, stop_same}
use Rattle.history_merge.proofs.TimesLemmas.{times}

-- how often an operation begins
abbrev pub begins_of : ℕ → List Event → ℕ
begins_of act events = times (is_begin_of act) events

begun_step : (n : ℕ) (step : Step) (of : ActPhase) → has_begun (progressed step of) ≡ has_begun of
begun_step n step (phase.Running class progress) = refl
begun_step n step other = refl

accepted_by : (inline posting operation control : Bool) →
    has_begun (cond inline phase.Inside (cond posting (phase.Ready code.Ok 0 cause.Posted)
    (cond operation phase.Requested (cond control phase.Asked phase.Absent)))) ≡ false
accepted_by true posting operation control = refl
accepted_by false true operation control = refl
accepted_by false false true control = refl
accepted_by false false false true = refl
accepted_by false false false false = refl

finished_begun : (script : ScriptModel) (o : ℕ) (of : ActPhase) → has_finished script o of ≡ true → has_begun of ≡ true
finished_begun script o (phase.Running class progress) is = refl
finished_begun script o other is = absurd (cc)

module _ (script : ScriptModel) (well : IsWellFormed script) (told : Bool) (act : ℕ) where
  abbrev begun_at : State → Bool
  begun_at s = has_begun (phase_at s.context act)

  abbrev test : ℕ → ActPhase → Bool
  test n of = has_begun of

  abbrev Nowhere : ℕ → Type 0
  Nowhere n = ⊥

  abbrev Here : ℕ → ℕ → Type 0
  Here o n = n ≡ o

  abbrev Counts : State → Event → Type 0
  Counts s shown =
      one_if (begun_at (after_event script told s shown)) ≡ one_if (begun_at s) + one_if (is_begin_of act shown)

  -- an event that isn't its begin leaves whether it has begun
  same_begun : (s : State) (shown : Event) → one_if (is_begin_of act shown) ≡ 0 →
      Each (IsSame test Nowhere) s.context.acts (context_after script s.context shown).acts → Counts s shown
  same_begun s shown isnt each = let same = ap one_if ((each act).same (λ never. never)) in omega (arith, same, isnt)

  begun_after : (s : State) (shown : Event) → IsInOrder script s.context → MayHappen script told s shown →
      IsExpected s.context shown → Counts s shown
  begun_after s (event.Call a) order may expected =
      same_begun s (event.Call a) refl
      (call_same test begun_step script s.context Nowhere a
      (λ here.
      accepted_by (is_inline script a) (is_act is_posting script a) (is_act is_operation script a)
      (is_act is_control script a)
      ∙ sym (ap (λ (x : ActState). has_begun x.phase) (fresh_next script well s.context order s.reactor.failed a may))))
  begun_after s (event.Stop (Some a)) order may expected =
      same_begun s (event.Stop (Some a)) refl (stop_same test begun_step script s.context Nowhere a)
  begun_after s (event.Stop None) order may expected =
      same_begun s (event.Stop None) refl (base_same test begun_step script s.context Nowhere)
  begun_after s (event.Back a) order may expected =
      same_begun s (event.Back a) refl (back_same test begun_step script s.context Nowhere a)
  begun_after s (event.Begin o given size) order may expected = elim (cases_eq o act) [
    | inl same ↦
        let begins : one_if (is_begin_of act (event.Begin o given size)) ≡ 1 = ap one_if (eq-eqb o act same) in
        let to = to_begin script s.context o given size may in
        let was : one_if (begun_at s) ≡ 0 = ap (λ n. one_if (has_begun (phase_at s.context n))) (sym same) ∙ ap one_if to.isnt in
        let now : one_if (begun_at (after_event script told s (event.Begin o given size))) ≡ 1 =
        ap (λ n. one_if (has_begun (phase_at (context_after script s.context (event.Begin o given size)) n))) (sym same)
        ∙ ap (λ (x : ActState). one_if (has_begun x.phase))
        (begun_act script s.context o (is_within s.context o to.there) given) in
        omega (arith, begins, was, now)
    | inr other ↦
        let still =
        ap one_if ((begin_same test begun_step script s.context (Here o) o given size (λ away. absurd (away refl)) act).same
        (λ is. other (sym is))) in
        let none : one_if (is_begin_of act (event.Begin o given size)) ≡ 0 = ap one_if (ne_eqb o act other) in
        omega (arith, still, none)
  ]
  begun_after s (event.End o mark) order may expected =
      same_begun s (event.End o mark) refl
      (phase_same test begun_step script s.context Nowhere o phase.Ended
      (λ here. sym (finished_begun script o (phase_at s.context o) may)))
  begun_after s (event.Done o given size) order may expected =
      same_begun s (event.Done o given size) refl
      (phase_same test begun_step script s.context Nowhere o
      (phase.Ready given size (cause.Completed s.context.events (unwrap_or s.context.turn 0)))
      (λ here. sym (ap has_begun expected)))
  begun_after s (event.Dropped o mark) order may expected =
      same_begun s (event.Dropped o mark) refl
      (phase_same test begun_step script s.context Nowhere o phase.Dropped (λ here. sym expected))
  begun_after s other order may expected = same_begun s other refl (base_same test begun_step script s.context Nowhere)

  -- what has begun began here, or before
  pub begun_exact : (s : State) (events : List Event) → IsInOrder script s.context →
      s.context.events + length events < most_faults → AreExpected script told s events →
      one_if (begun_at (state_from script told s events)) ≡ one_if (begun_at s) + begins_of act events
  begun_exact s [] order room are = omega arith
  begun_exact s (shown ∷ events) order room are =
      let next : State = after_event script told s shown in
      let one : next.context.events ≤ s.context.events + 1 =
      let is = counted_is script told s (shown ∷ []) (omega (arith, room)) in
      let most = counted_most (shown ∷ []) in omega (arith, is, most) in
      let rest =
      begun_exact next events
      (in_order script well told s order (omega (arith, room)) shown are.0 are.1) (omega (arith, room, one)) are.2 in
      let now = begun_after s shown order are.0 are.1 in
      omega (arith, rest, now)

  pub begun_shown : (s : State) (events : List Event) → IsInOrder script s.context →
      s.context.events + length events < most_faults → AreExpected script told s events →
      one_if (begun_at (state_from script told s events)) ≤ one_if (begun_at s) + begins_of act events
  begun_shown s events order room are = let is = begun_exact s events order room are in omega (arith, is)

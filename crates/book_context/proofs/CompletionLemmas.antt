-- An operation that completes is ready behind all others.
use Rattle.std.proofs.Common.{◌≡◌, ◌≢◌, ℕ, ◌+◌, ◌<◌, Bool, true, false, not, ◌&&◌, List, ◌∷◌, ◌++◌, inl, inr, get_or, length, refl, sym, ap, subst, ◌∙◌, arith, []}
use Rattle.std.specs.List.{All, Any, slice_index_or}
use Rattle.std.specs.Option.{unwrap_or}
use Rattle.std.proofs.lemmas.Bool.{and_parts, cases_eq}
use Rattle.std.proofs.lemmas.List.Elements.{All-append, All-cons, All-nil, All-set}
use Rattle.std.proofs.lemmas.List.Quantifiers.{Any-push, all_pairs_push}
use Rattle.asio_types.specs.Faults.{most_faults}
use Rattle.asio_types.specs.declared.code.Code.{Code}
use Rattle.asio_types.specs.declared.event.Event.TheVariants as event
use Rattle.session_script.specs.Script.{ScriptModel}
use Rattle.history_rules.specs.Calls.{is_open}
use Rattle.history_rules.specs.Executions.{IsReadyWith}
use Rattle.history_rules.specs.Legal.{after_event}
use Rattle.history_rules.specs.Order.{called_at, is_request, is_untaken, was_taken}
use Rattle.history_rules.specs.Rounds.{is_running}
use Rattle.history_rules.specs.State.{State, act_at, call_at, phase_at}
use Rattle.history_rules.specs.declared.phase.ActPhase.TheVariants as phase
use Rattle.history_rules.specs.declared.phase.ActState.{ActState}
use Rattle.history_rules.specs.declared.phase.CallPhase.TheVariants as call
use Rattle.history_rules.specs.declared.phase.Cause.TheVariants as cause
use Rattle.execution_laws.specs.Order.{IsKept, IsOrderly, has_begun}
use Rattle.execution_laws.specs.Ready.{AreReady, AreUntaken, IsCallPast, IsCausePast, IsDated, asked_at, is_ready, ready_at, ready_since}
use Rattle.execution_laws.specs.Rest.{IsAtRest, waits_inside}
use Rattle.execution_laws.proofs.CountLemmas.{one_more-is}
use Rattle.execution_laws.proofs.KeptLemmas.{cause_later, ready_past}
use Rattle.execution_laws.proofs.MovesLemmas.{past_later}
use Rattle.execution_laws.proofs.RestLemmas.{at_each, is_within}
use Rattle.execution_laws.proofs.RisingLemmas.{any-left}
use Rattle.execution_laws.proofs.StateLemmas.{act_at-other, act_at-same, length-acts}
use Rattle.reactor_turns.proofs.TakenLemmas.{done-taken}

module _ (script : ScriptModel) (told : Bool) (s : State) (op : ℕ) (given : Code) (size : ℕ)
    (ready : List (ℕ × Code × ℕ)) (requests : List ℕ) (requested : phase_at s.context op ≡ phase.Requested)
    (was : was_taken s.reactor op ≡ true) (room : s.context.events + 1 < most_faults)
    (kept : IsKept script s ready requests) where
  abbrev told_act : ActState
  told_act =
      record (act_at s.context op)
      { phase = phase.Ready given size (cause.Completed s.context.events (unwrap_or s.context.turn 0)) }

  abbrev after : State
  after = after_event script told s (event.Done op given size)

  counted : after.context.events ≡ s.context.events + 1
  counted = one_more-is s.context.events (omega (arith, room))

  within : op < length s.context.acts
  within =
      is_within s.context op (λ absent. let wrong : phase.Requested ≡ phase.Absent = sym requested ∙ absent in absurd (cc))

  here : act_at after.context op ≡ told_act
  here = act_at-same s.context op told_act within

  other : (n : ℕ) → n ≢ op → act_at after.context n ≡ act_at s.context n
  other n differ = act_at-other s.context op told_act n differ

  -- no call changes
  same_call : (n : ℕ) → call_at after.context n ≡ call_at s.context n
  same_call n = elim (cases_eq n op) [
    | inl same ↦
        subst (λ n. call_at after.context n ≡ call_at s.context n) (sym same) (ap (λ (act : ActState). act.call) here)
    | inr differ ↦ ap (λ (act : ActState). act.call) (other n differ)
  ]

  same_taken : (n : ℕ) → was_taken after.reactor n ≡ was_taken s.reactor n
  same_taken n = ap (λ (taken : List Bool). slice_index_or taken n false) (done-taken script s.reactor op)

  -- what is asked of each act holds of the one that completed and of the others
  everywhere : (P : ActState → Type 0) → P told_act → All P s.context.acts → All P after.context.acts
  everywhere P now all = All-set P s.context.acts op told_act now all

  told_rest : IsAtRest script after.context
  told_rest = record {
    acts = length-acts s.context op told_act ∙ kept.rest.acts;
    quiet = everywhere (λ act. is_running act.phase ≡ false) refl kept.rest.quiet;
    entered = everywhere (λ act. waits_inside act.phase ≡ false) refl kept.rest.entered;
    back =
        everywhere (λ act. is_open act.call ≡ false)
        (at_each (λ act. is_open act.call ≡ false) s.context refl kept.rest.back op) kept.rest.back;
    counted = omega (arith, counted, room);
  }

  told_cause : (n : ℕ) → IsCausePast after.context.events (phase_at after.context n)
  told_cause n = elim (cases_eq n op) [
    | inl same ↦
        let past : IsCausePast after.context.events told_act.phase =
        (kept.orderly.dated.turn, omega (arith, counted)) in
        subst (λ n. IsCausePast after.context.events (phase_at after.context n)) (sym same)
        (subst (λ (act : ActState). IsCausePast after.context.events act.phase) (sym here) past)
    | inr differ ↦
        subst (λ (act : ActState). IsCausePast after.context.events act.phase) (sym (other n differ))
        (cause_later s.context.events after.context.events (phase_at s.context n) (omega (arith, counted))
        (kept.orderly.dated.causes n))
  ]

  told_dated : IsDated after.context
  told_dated = record {
    calls = λ n.
        subst (IsCallPast after.context.events) (sym (same_call n))
        (past_later s.context.events after.context.events (call_at s.context n) (omega (arith, counted))
        (kept.orderly.dated.calls n));
    causes = told_cause;
    turn = omega (arith, counted, kept.orderly.dated.turn);
  }

  told_uncalled : (n : ℕ) → call_at after.context n ≡ call.Uncalled → phase_at after.context n ≡ phase.Absent
  told_uncalled n is =
      let before : phase_at s.context n ≡ phase.Absent = kept.orderly.uncalled n (sym (same_call n) ∙ is) in
      elim (cases_eq n op) [
        | inl same ↦
            absurd (let wrong : phase.Requested ≡ phase.Absent =
            sym requested ∙ (ap (phase_at s.context) (sym same) ∙ before) in
            cc)
        | inr differ ↦ ap (λ (act : ActState). act.phase) (other n differ) ∙ before
      ]

  told_not_begun : (n : ℕ) → has_begun (phase_at after.context n) ≡ false → has_begun (phase_at s.context n) ≡ false
  told_not_begun n isnt = elim (cases_eq n op) [
    | inl same ↦ ap (λ n. has_begun (phase_at s.context n)) same ∙ ap has_begun requested
    | inr differ ↦ ap (λ (act : ActState). has_begun act.phase) (sym (other n differ)) ∙ isnt
  ]

  told_orderly : IsOrderly script after
  told_orderly = record {
    dated = told_dated;
    uncalled = told_uncalled;
    untaken = λ n is. same_taken n ∙ kept.orderly.untaken n (sym (same_call n) ∙ is);
    branches = λ n parent branch under isnt.
        same_call n ∙ kept.orderly.branches n parent branch under (told_not_begun parent isnt);
  }

  -- what was ready before is another operation
  older_differs : (n : ℕ) → is_ready (phase_at s.context n) ≡ true → n ≢ op
  older_differs n is same =
      absurd (let wrong : false ≡ true = sym (ap (λ n. is_ready (phase_at s.context n)) same ∙ ap is_ready requested) ∙ is in cc)

  older_stays : All (λ item. act_at after.context item.0 ≡ act_at s.context item.0) ready
  older_stays k d below =
      other (get_or ready k d).0 (older_differs (get_or ready k d).0 (ap is_ready (kept.are_ready.each k d below).1))

  older_at : All (λ item. ready_at after.context item.0 ≡ ready_at s.context item.0) ready
  older_at k d below = ap (λ (act : ActState). ready_since act.call act.phase) (older_stays k d below)

  told_at : ready_at after.context op ≡ s.context.events
  told_at = ap (λ (act : ActState). ready_since act.call act.phase) here

  older_before : (k : ℕ) (d : ℕ × Code × ℕ) → k < length ready →
      ready_at after.context (get_or ready k d).0 < ready_at after.context op
  older_before k d below =
      let n : ℕ = (get_or ready k d).0 in
      let is : is_ready (phase_at s.context n) ≡ true = ap is_ready (kept.are_ready.each k d below).1 in
      let made : call_at s.context n ≢ call.Uncalled = λ uncalled.
      absurd (let wrong : false ≡ true = sym (ap is_ready (kept.orderly.uncalled n uncalled)) ∙ is in cc) in
      let past : ready_at s.context n < s.context.events =
      ready_past s.context.events (call_at s.context n) (phase_at s.context n) (kept.orderly.dated.calls n)
      (kept.orderly.dated.causes n) made is in
      let same : ready_at after.context n ≡ ready_at s.context n = older_at k d below in
      omega (arith, past, same, told_at)

  told_listed : (n : ℕ) → is_ready (phase_at after.context n) ≡ true →
      Any (λ item. item.0 ≡ n) (ready ++ (op, given, size) ∷ [])
  told_listed n is = elim (cases_eq n op) [
    | inl same ↦ Any-push (λ item. item.0 ≡ n) ready (op, given, size) (sym same)
    | inr differ ↦
        any-left (λ item. item.0 ≡ n) ready ((op, given, size) ∷ [])
        (kept.are_ready.all n (ap (λ (act : ActState). is_ready act.phase) (sym (other n differ)) ∙ is))
  ]

  told_ready : AreReady after.context (ready ++ (op, given, size) ∷ [])
  told_ready = record {
    each = All-append (λ item. IsReadyWith (phase_at after.context item.0) item.1 item.2) ready ((op, given, size) ∷ [])
        (λ k d below. (
          (kept.are_ready.each k d below).0,
          ap (λ (act : ActState). act.phase) (older_stays k d below) ∙ (kept.are_ready.each k d below).1,
        ))
        (All-cons (λ item. IsReadyWith (phase_at after.context item.0) item.1 item.2) (op, given, size) []
        (cause.Completed s.context.events (unwrap_or s.context.turn 0), ap (λ (act : ActState). act.phase) here)
        (All-nil (λ item. IsReadyWith (phase_at after.context item.0) item.1 item.2)));
    all = told_listed;
    oldest_first =
        all_pairs_push (λ older newer. ready_at after.context older.0 < ready_at after.context newer.0) ready (op, given, size)
        (λ i j d less below.
        let before = kept.are_ready.oldest_first i j d less below in
        let one = older_at i d (omega (arith, less, below)) in
        let two = older_at j d below in
        omega (arith, before, one, two)) older_before;
  }

  -- the requests that wait are others, and wait as before
  request_stays : (n : ℕ) → n ≢ op → is_untaken after n ≡ is_untaken s n
  request_stays n differ =
      ap (λ (act : ActState). is_request act.phase && not (was_taken after.reactor n)) (other n differ)
      ∙ ap (λ b. is_request (phase_at s.context n) && not b) (same_taken n)

  waits_elsewhere : (n : ℕ) → is_untaken s n ≡ true → n ≢ op
  waits_elsewhere n is same =
      let waits : not (was_taken s.reactor n) ≡ true =
      (and_parts (is_request (phase_at s.context n)) (not (was_taken s.reactor n)) is).1 in
      absurd (let wrong : false ≡ true = sym (ap (λ n. not (was_taken s.reactor n)) same ∙ ap not was) ∙ waits in cc)

  told_waits : (n : ℕ) → is_untaken after n ≡ true → n ≢ op
  told_waits n is same =
      let asks : is_request (phase_at after.context n) ≡ true =
      (and_parts (is_request (phase_at after.context n)) (not (was_taken after.reactor n)) is).0 in
      absurd (let wrong : false ≡ true =
      sym (ap (λ n. is_request (phase_at after.context n)) same
      ∙ ap (λ (act : ActState). is_request act.phase) here) ∙ asks in
      cc)

  told_untaken : AreUntaken after requests
  told_untaken = record {
    each = λ k d below.
        request_stays (get_or requests k d) (waits_elsewhere (get_or requests k d) (kept.are_untaken.each k d below))
        ∙ kept.are_untaken.each k d below;
    all = λ n is. kept.are_untaken.all n (sym (request_stays n (told_waits n is)) ∙ is);
    oldest_first = λ i j d less below.
        let before = kept.are_untaken.oldest_first i j d less below in
        let one : asked_at after.context (get_or requests i d) ≡ asked_at s.context (get_or requests i d) =
        ap called_at (same_call (get_or requests i d)) in
        let two : asked_at after.context (get_or requests j d) ≡ asked_at s.context (get_or requests j d) =
        ap called_at (same_call (get_or requests j d)) in
        omega (arith, before, one, two);
  }

  pub telling : IsKept script (after_event script told s (event.Done op given size)) (ready ++ (op, given, size) ∷ [])
      requests
  telling = record { rest = told_rest; orderly = told_orderly; are_ready = told_ready; are_untaken = told_untaken }

pub telling_keeps : (script : ScriptModel) (told : Bool) (s : State) (op : ℕ) (given : Code) (size : ℕ)
    (ready : List (ℕ × Code × ℕ)) (requests : List ℕ) → phase_at s.context op ≡ phase.Requested →
    was_taken s.reactor op ≡ true → s.context.events + 1 < most_faults → IsKept script s ready requests →
    IsKept script (after_event script told s (event.Done op given size)) (ready ++ (op, given, size) ∷ []) requests
telling_keeps script told s op given size ready requests requested was room kept =
    telling script told s op given size ready requests requested was room kept

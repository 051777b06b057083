-- What is recorded of a completion.
use Rattle.std.proofs.Common.{◌≡◌, ◌≢◌, ℕ, ◌+◌, ◌<◌, ◌≤◌, Bool, true, false, ◌&&◌, List, ◌∷◌, ◌++◌, inl, inr, length, refl, sym, ap, subst, ◌∙◌, arith, []}
use Rattle.std.specs.Prelude.{IsSome}
use Rattle.std.specs.List.{slice_index_or}
use Rattle.std.specs.Option.{unwrap_or}
use Rattle.std.proofs.lemmas.Bool.{and_parts, cases_eq, eq-eqb, ne_eqb}
use Rattle.std.proofs.lemmas.List.{length-append}
use Rattle.asio_types.specs.declared.code.Code.{Code}
use Rattle.asio_types.specs.declared.event.Event.TheVariants as event
use Rattle.session_script.specs.Script.{is_op}
use Rattle.session_script.specs.Lanes.{is_inline}
use Rattle.stream_rules.specs.World.{times_after}
use Rattle.history_rules.specs.Legal.{after_event}
use Rattle.history_rules.specs.Order.{was_taken}
use Rattle.history_rules.specs.Requests.{MayTell}
use Rattle.history_rules.specs.Rounds.{is_unspent}
use Rattle.history_rules.specs.State.{State, act_at, call_at, phase_at}
use Rattle.history_rules.specs.declared.phase.ActPhase.{ActPhase}
use Rattle.history_rules.specs.declared.phase.ActPhase.TheVariants as phase
use Rattle.history_rules.specs.declared.phase.ActState.{ActState}
use Rattle.history_rules.specs.declared.phase.CallPhase.TheVariants as call
use Rattle.history_rules.specs.declared.phase.Cause.TheVariants as cause
use Rattle.execution_laws.specs.Kinds.{AreOfKind, is_accepted, is_spent, was_called}
use Rattle.execution_laws.specs.Order.{IsKept}
use Rattle.execution_laws.specs.Ready.{is_ready}
use Rattle.execution_laws.specs.Work.{is_pending, is_requested}
use Rattle.execution_laws.proofs.AccountLemmas.{account_done}
use Rattle.execution_laws.proofs.CountingLemmas.{counted-most}
use Rattle.execution_laws.proofs.RestLemmas.{is_within}
use Rattle.execution_laws.proofs.StateLemmas.{act_at-other, act_at-same, length-acts}
use Rattle.execution_laws.proofs.WorkLemmas.{ready_count}
use Rattle.reactor_turns.specs.Ahead.{one_unless}
use Rattle.book_context.specs.Left.{act_left, act_left_at, events_left}
use Rattle.book_context.specs.Recorded.{IsRecorded, recorded_half, recorded_state}
use Rattle.book_context.specs.Recording.{Recording, with_done}
use Rattle.reactor_turns.specs.Standing.{stands}
use Rattle.book_context.specs.Steps.{EventIsRecorded}
use Rattle.book_context.specs.TurnSteps.{CompletionIsRecorded}
use Rattle.reactor_turns.proofs.ClockLemmas.{ahead-time, time-done}
use Rattle.book_context.proofs.CompletionLemmas.{telling_keeps}
use Rattle.book_context.proofs.LeftLemmas.{acts-apart, left-falls, left_told}
use Rattle.book_context.proofs.RecordedLemmas.{Changes, goes_on}
use Rattle.reactor_turns.proofs.StandingLemmas.{stands-done}
use Rattle.reactor_turns.proofs.SummingLemmas.{one_if}
use Rattle.reactor_turns.proofs.TakenLemmas.{done-taken}
use Rattle.book_context.proofs.TurnStepLemmas.{one_more-most}

one_or : (b : Bool) (k : ℕ) → k + 1 ≡ one_if b → b ≡ true
one_or true k is = refl
one_or false k is = absurd (omega (arith, is))

module _ (told : Bool) (r : Recording) (op : ℕ) (given : Code) (size : ℕ) (knows : IsRecorded told r)
    (works : (recorded_half told r).failed ≡ false) (going : IsSome (recorded_state told r).context.turn)
    (may : MayTell r.script told (recorded_half told r) op given size) where
  abbrev was : State
  was = recorded_state told r

  abbrev now_told : State
  now_told = after_event r.script told was (event.Done op given size)

  -- what may be told stands somewhere, so it is pending
  pending : is_pending was op ≡ true
  pending =
      let less = stands-done op r.script told was.reactor op given size may in
      let before : stands op was.reactor ≡ one_if (is_pending was op) = knows.standing works op in
      let itself = ap one_if (eq-eqb op op refl) in
      one_or (is_pending was op) (stands op now_told.reactor) (omega (arith, less, before, itself))

  is_requested_phase : (p : ActPhase) → is_requested p ≡ true → p ≡ phase.Requested
  is_requested_phase phase.Requested is = refl
  is_requested_phase p is = absurd (cc)

  requested : phase_at was.context op ≡ phase.Requested
  requested =
      is_requested_phase (phase_at was.context op)
      (and_parts (is_requested (phase_at was.context op)) (was_taken was.reactor op) pending).0

  is_taken : was_taken was.reactor op ≡ true
  is_taken = (and_parts (is_requested (phase_at was.context op)) (was_taken was.reactor op) pending).1

  call_made : call_at was.context op ≢ call.Uncalled
  call_made isnt =
      absurd (let wrong : phase.Absent ≡ phase.Requested = sym (knows.kept.orderly.uncalled op isnt) ∙ requested in cc)

  there : op < length was.context.acts
  there =
      is_within was.context op (λ absent. absurd (let wrong : phase.Absent ≡ phase.Requested = sym absent ∙ requested in cc))

  abbrev told_act : ActState
  told_act =
      record (act_at was.context op)
      { phase = phase.Ready given size (cause.Completed was.context.events (unwrap_or was.context.turn 0)) }

  told_here : act_at now_told.context op ≡ told_act
  told_here = act_at-same was.context op told_act there

  told_other : (n : ℕ) → n ≢ op → act_at now_told.context n ≡ act_at was.context n
  told_other n differ = act_at-other was.context op told_act n differ

  still_taken : (n : ℕ) → was_taken now_told.reactor n ≡ was_taken was.reactor n
  still_taken n = ap (λ (taken : List Bool). slice_index_or taken n false) (done-taken r.script was.reactor op)

  same_calls : (n : ℕ) → call_at now_told.context n ≡ call_at was.context n
  same_calls n = elim (cases_eq n op) [
    | inl same ↦
        ap (call_at now_told.context) same
        ∙ (ap (λ (act : ActState). act.call) told_here ∙ ap (call_at was.context) (sym same))
    | inr differ ↦ ap (λ (act : ActState). act.call) (told_other n differ)
  ]

  -- what holds of the operation and of the others
  by_told : (P : ℕ → ActState → Type 0) (n : ℕ) → P op told_act → P n (act_at was.context n) →
      P n (act_at now_told.context n)
  by_told P n here others = elim (cases_eq n op) [
    | inl same ↦ subst (λ n. P n (act_at now_told.context n)) (sym same) (subst (P op) (sym told_here) here)
    | inr differ ↦ subst (P n) (sym (told_other n differ)) others
  ]

  no_kind : (b : Bool) → b ≡ false → is_unspent (phase_at was.context op) ≡ b → ⊥
  no_kind b is unspent = absurd (let wrong : true ≡ false = sym (ap is_unspent requested) ∙ (unspent ∙ is) in cc)

  told_kinds : AreOfKind r.script now_told.context
  told_kinds = record {
    operations = λ n is made.
        by_told (λ n act. is_accepted act.phase ≡ true) n refl
        (knows.kinds.operations n is (sym (ap was_called (same_calls n)) ∙ made));
    others = λ n isnt. elim (cases_eq n op) [
      | inl same ↦ absurd (no_kind false refl (knows.kinds.others op (ap (is_op r.script) (sym same) ∙ isnt)))
      | inr differ ↦ ap (λ (act : ActState). is_unspent act.phase) (told_other n differ) ∙ knows.kinds.others n isnt
    ];
    inline = λ n is. elim (cases_eq n op) [
      | inl same ↦ absurd (no_kind false refl (knows.kinds.inline op (ap (is_inline r.script) (sym same) ∙ is)))
      | inr differ ↦ ap (λ (act : ActState). is_unspent act.phase) (told_other n differ) ∙ knows.kinds.inline n is
    ];
  }

  told_stands : (n : ℕ) → stands n now_told.reactor ≡ one_if (is_pending now_told n)
  told_stands n =
      let less = stands-done n r.script told was.reactor op given size may in
      let before : stands n was.reactor ≡ one_if (is_pending was n) = knows.standing works n in
      elim (cases_eq n op) [
        | inl same ↦
            let one = ap one_if (eq-eqb op n (sym same)) in
            let had = ap one_if (ap (is_pending was) same ∙ pending) in
            let none =
            ap one_if
            (ap (is_pending now_told) same
            ∙ ap (λ (act : ActState). is_requested act.phase && was_taken now_told.reactor op) told_here) in
            omega (arith, less, before, one, had, none)
        | inr differ ↦
            let none = ap one_if (ne_eqb op n (λ same. differ (sym same))) in
            let same =
            ap one_if
            (ap (λ (act : ActState). is_requested act.phase && was_taken now_told.reactor n) (told_other n differ)
            ∙ ap (λ b. is_requested (phase_at was.context n) && b) (still_taken n)) in
            omega (arith, less, before, none, same)
      ]

  told_left : events_left r.script now_told + 1 ≤ events_left r.script was
  told_left =
      let time = time-done r.script was.reactor op in
      let now : act_left_at now_told op ≡ act_left (call_at was.context op) told_act.phase true =
      ap (λ (act : ActState). act_left act.call act.phase (was_taken now_told.reactor op)) told_here
      ∙ ap (act_left (call_at was.context op) told_act.phase) (still_taken op ∙ is_taken) in
      let before : act_left_at was op ≡ act_left (call_at was.context op) (phase_at was.context op) true =
      ap (act_left (call_at was.context op) (phase_at was.context op)) is_taken in
      let here = left_told (call_at was.context op) (phase_at was.context op) told_act.phase call_made requested refl in
      let acts =
      acts-apart was now_told op 1 (length-acts was.context op told_act) there (omega (arith, now, before, here))
      (λ m differ.
      ap (λ (act : ActState). act_left act.call act.phase (was_taken now_told.reactor m)) (told_other m differ)
      ∙ ap (act_left (call_at was.context m) (phase_at was.context m)) (still_taken m)) in
      let waits = ap length time.waits in
      let times = ap (λ now. length (times_after now r.script.world.lines)) time.now in
      let last = ap one_unless time.last in
      let failed = ap one_unless time.failed in
      left-falls r.script was now_told 1 (omega (arith, acts, waits, times, last, failed))

  told_order : IsKept r.script now_told (r.ready ++ (op, given, size) ∷ []) r.requests
  told_order =
      telling_keeps r.script told was op given size r.ready r.requests requested is_taken
      (let less = told_left in let had = knows.room in let few = knows.within in omega (arith, less, had, few))
      knows.kept

  changes_told : Changes r.script was now_told (r.ready ++ (op, given, size) ∷ []) r.requests r.stopped r.restarted
      r.closings
  changes_told = record {
    kept = told_order;
    accounted = λ still. account_done r.script told was op given size (knows.accounted works) requested is_taken may;
    standing = λ still n. told_stands n;
    ahead = ahead-time was.reactor now_told.reactor (time-done r.script was.reactor op) knows.ahead;
    kinds = told_kinds;
    free = record { lanes = knows.free.lanes; free = knows.free.free };
    opening = refl;
    calls = same_calls;
    stopped = knows.stopped;
    restarted = knows.restarted;
    closings = knows.closings;
    dropping = refl;
    left = told_left;
    events = one_more-most was.context.events;
    spent = λ n.
        by_told (λ n act. is_spent act.phase ≡ is_spent (phase_at was.context n)) n (ap is_spent (sym requested)) refl;
  }

  goes_told : EventIsRecorded told r (event.Done op given size) (with_done op given size r)
  goes_told =
      goes_on told r (event.Done op given size) (r.ready ++ (op, given, size) ∷ []) r.requests r.stopped r.restarted
      r.closings knows (record { working = works; next = may; turn = λ none. going }) changes_told

  pub has_told : CompletionIsRecorded told r op given size
  has_told = record {
    requested = requested;
    taken = is_taken;
    place =
        let count = ready_count r.script now_told (r.ready ++ (op, given, size) ∷ []) r.requests told_order in
        let most = counted-most (λ n. is_ready (phase_at now_told.context n)) (length now_told.context.acts) in
        let both = length-append r.ready ((op, given, size) ∷ []) in
        let acts = told_order.rest.acts in
        omega (arith, count, most, both, acts);
    goes = goes_told;
    turn = subst (λ (s : State). IsSome s.context.turn) (sym goes_told.state) going;
    working =
        ap (λ (s : State). s.reactor.failed) goes_told.state ∙ ((time-done r.script was.reactor op).failed ∙ works);
  }

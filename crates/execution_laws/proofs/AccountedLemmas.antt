-- Executions leave what is pending as it is.
use Rattle.std.proofs.Common.{◌≡◌, ◌≢◌, ℕ, zero, suc, ◌+◌, Bool, true, false, ◌&&◌, List, Some, inl, inr, length, replicate, refl, sym, ap, subst, ◌∙◌, arith}
use Rattle.std.specs.Prelude.{sum_by}
use Rattle.std.proofs.lemmas.Bool.{and_parts, cases_Bool, cases_eq, cases_lt}
use Rattle.std.proofs.lemmas.List.{get_or-replicate, get_or_past, length-replicate}
use Rattle.std.proofs.lemmas.List.Sums.{sum_by-cons}
use Rattle.asio_types.specs.Code.{class_of_code}
use Rattle.asio_types.specs.declared.code.Code.{Code}
use Rattle.session_script.specs.Script.{ScriptModel, opening_of, parent_of}
use Rattle.session_script.specs.Lanes.{is_inline}
use Rattle.session_script.specs.WellFormed.{IsWellFormed}
use Rattle.history_rules.specs.Calls.{accepted}
use Rattle.history_rules.specs.Executions.{MayBeginOutside}
use Rattle.history_rules.specs.Legal.{state_from, state_of}
use Rattle.history_rules.specs.Order.{is_request, was_taken}
use Rattle.history_rules.specs.State.{State, StreamQueues, call_at, first_reactor, no_queues, phase_at}
use Rattle.history_rules.specs.declared.phase.ActPhase.TheVariants as phase
use Rattle.history_rules.specs.declared.phase.ActState.{ActState}
use Rattle.history_rules.specs.declared.phase.CallPhase.TheVariants as call
use Rattle.strand_core.specs.Execution.{AnyMark, AreCalls, IsWholeExecution, events_of}
use Rattle.strand_core.specs.declared.posted.Posted.{Posted}
use Rattle.execution_laws.specs.Called.{is_called, settled_phase}
use Rattle.execution_laws.specs.Executed.{IsLegalExecution}
use Rattle.execution_laws.specs.Opened.{IsLegalOpening}
use Rattle.execution_laws.specs.Order.{IsOrderly, has_begun}
use Rattle.execution_laws.specs.Rest.{IsAtRest}
use Rattle.execution_laws.specs.Accounted.{IsAccounted}
use Rattle.execution_laws.specs.Work.{is_pending, is_requested}
use Rattle.execution_laws.proofs.AccountLemmas.{pending_same}
use Rattle.execution_laws.proofs.CalledLemmas.{called-execution}
use Rattle.execution_laws.proofs.CountingLemmas.{counted-never, counted-range}
use Rattle.execution_laws.proofs.ExecutedLemmas.{is_legal_execution}
use Rattle.execution_laws.proofs.KeptLemmas.{before_absent, before_uncalled}
use Rattle.execution_laws.proofs.OpenedLemmas.{is_legal_opening}
use Rattle.execution_laws.proofs.SettledLemmas.{settled_request}

module _ (script : ScriptModel) (told : Bool) (s : State) (op : ℕ) (given : Code) (size : ℕ) (calls : List Posted)
    (well : IsWellFormed script) (rest : IsAtRest script s.context) (orderly : IsOrderly script s)
    (own : is_inline script op ≡ false) (may : MayBeginOutside script s.context op given size)
    (whole : IsWholeExecution script AnyMark op given size calls) where
  pub did : IsLegalExecution script told s op calls
  did = is_legal_execution script told s op given size calls well rest own may whole

  pub in_body : (n : ℕ) → is_called n calls ≡ true → is_called n whole.body ≡ true
  in_body n is =
      sym (ap (is_called n) whole.is ∙ called-execution n op given size whole.begun whole.mark whole.body) ∙ is

  pub unmade : (n : ℕ) → parent_of script n ≡ Some (op, class_of_code given) → call_at s.context n ≡ call.Uncalled
  unmade n under = orderly.branches n op (class_of_code given) under (ap has_begun may.ready.1)

  pub absent : (n : ℕ) → is_called n calls ≡ true → phase_at s.context n ≡ phase.Absent
  absent n is =
      before_absent script well AnyMark (Some (op, class_of_code given)) whole.body whole.acts s orderly unmade n (in_body n is)

  pub untaken : (n : ℕ) → is_called n calls ≡ true → was_taken s.reactor n ≡ false
  untaken n is =
      orderly.untaken n (before_uncalled script well AnyMark (Some (op, class_of_code given)) whole.body whole.acts s
      orderly unmade n (in_body n is))

  abbrev pub after : State
  after = record { context = did.after; reactor = s.reactor }

  pub now_ended : phase_at did.after op ≡ phase.Ended
  now_ended = ap (λ (act : ActState). act.phase) did.executed.ended

  pub still : (n : ℕ) → is_called n calls ≡ false → n ≢ op → phase_at did.after n ≡ phase_at s.context n
  still n isnt differ = ap (λ (act : ActState). act.phase) (did.executed.others n isnt differ)

  and_false : (b : Bool) → (b && false) ≡ false
  and_false true = refl
  and_false false = refl

  pub same_pending : (n : ℕ) → is_pending after n ≡ is_pending s n
  same_pending n = elim (cases_Bool (is_called n calls)) [
    | inl is ↦
        ap (λ b. is_requested (phase_at did.after n) && b) (untaken n is) ∙ (and_false (is_requested (phase_at did.after n))
        ∙ sym (ap (λ b. is_requested (phase_at s.context n) && b) (untaken n is) ∙ and_false (is_requested (phase_at s.context n))))
    | inr isnt ↦ elim (cases_eq n op) [
      | inl same ↦
          ap (is_pending after) same ∙ (ap (λ p. is_requested p && was_taken s.reactor op) now_ended
          ∙ sym (ap (is_pending s) same ∙ ap (λ p. is_requested p && was_taken s.reactor op) may.ready.1))
      | inr differ ↦ ap (λ p. is_requested p && was_taken s.reactor n) (still n isnt differ)
    ]
  ]

  asked_now : IsAccounted script s → (n : ℕ) → is_request (phase_at did.after n) ≡ true →
      phase_at did.after n ≡ accepted script n
  asked_now account n asks = elim (cases_Bool (is_called n calls)) [
    | inl is ↦
        let now : phase_at did.after n ≡ settled_phase script n =
        ap (λ (act : ActState). act.phase) (did.executed.called n is).is in
        now ∙ settled_request script n (sym (ap is_request now) ∙ asks)
    | inr isnt ↦ elim (cases_eq n op) [
      | inl same ↦
          absurd (let wrong : false ≡ true =
          sym (ap (λ n. is_request (phase_at did.after n)) same ∙ ap is_request now_ended) ∙ asks in
          cc)
      | inr differ ↦ still n isnt differ ∙ account.asked n (sym (ap is_request (still n isnt differ)) ∙ asks)
    ]
  ]

  pub accounted_execution : IsAccounted script s →
      IsAccounted script (state_from script told s (events_of script calls))
  accounted_execution account = subst (IsAccounted script) (sym did.is) (record {
    streams = account.streams;
    marks = account.marks;
    asked = asked_now account;
    pending = pending_same s after (did.executed.rest.acts ∙ sym rest.acts) same_pending ∙ account.pending;
  })

pub account_execution : (script : ScriptModel) (told : Bool) (s : State) (op : ℕ) (given : Code) (size : ℕ)
    (calls : List Posted) → IsWellFormed script → IsAtRest script s.context → IsOrderly script s →
    IsAccounted script s → is_inline script op ≡ false → MayBeginOutside script s.context op given size →
    IsWholeExecution script AnyMark op given size calls →
    IsAccounted script (state_from script told s (events_of script calls))
account_execution script told s op given size calls well rest orderly account own may whole =
    accounted_execution script told s op given size calls well rest orderly own may whole account

none_pending : (n : ℕ) →
    sum_by (λ (queues : StreamQueues). length queues.reads + length queues.writes) (replicate n no_queues) ≡ 0
none_pending zero = refl
none_pending (suc n) =
    let first =
    sum_by-cons (λ (queues : StreamQueues). length queues.reads + length queues.writes) no_queues (replicate n no_queues) in
    let rest = none_pending n in
    omega (arith, first, rest)

module _ (script : ScriptModel) (told : Bool) (calls : List Posted) (well : IsWellFormed script)
    (acts : AreCalls script AnyMark (opening_of script) calls) where
  pub opened : IsLegalOpening script told calls
  opened = is_legal_opening script told calls well acts

  abbrev pub open_state : State
  open_state = record { context = opened.after; reactor = first_reactor script told }

  pub none_taken : (n : ℕ) → was_taken (first_reactor script told) n ≡ false
  none_taken n = elim (cases_lt n (length script.acts)) [
    | inl within ↦ get_or-replicate (length script.acts) n false false within
    | inr beyond ↦
        get_or_past (replicate (length script.acts) false) n false
        (omega (arith, beyond, length-replicate (length script.acts) false))
  ]

  pub not_pending : (n : ℕ) → is_pending open_state n ≡ true → ⊥
  not_pending n is =
      let taken : was_taken (first_reactor script told) n ≡ true =
      (and_parts (is_requested (phase_at opened.after n)) (was_taken (first_reactor script told) n) is).1 in
      absurd (let wrong : false ≡ true = sym (none_taken n) ∙ taken in cc)

  open_asked : (n : ℕ) → is_request (phase_at opened.after n) ≡ true → phase_at opened.after n ≡ accepted script n
  open_asked n asks = elim (cases_Bool (is_called n calls)) [
    | inl is ↦
        let now : phase_at opened.after n ≡ settled_phase script n =
        ap (λ (act : ActState). act.phase) (opened.opened.called n is).is in
        now ∙ settled_request script n (sym (ap is_request now) ∙ asks)
    | inr isnt ↦
        absurd (let wrong : false ≡ true =
        sym (ap (λ (act : ActState). is_request act.phase) (opened.opened.others n isnt)) ∙ asks in
        cc)
  ]

  pub accounted_opening : IsAccounted script (state_of script told (events_of script calls))
  accounted_opening = subst (IsAccounted script) (sym opened.is) (record {
    streams = length-replicate script.world.streams no_queues;
    marks = length-replicate (length script.acts) false;
    asked = open_asked;
    pending =
        let none = counted-never (is_pending open_state) (length opened.after.acts) not_pending in
        let range = counted-range (is_pending open_state) (length opened.after.acts) in
        let queues = none_pending script.world.streams in
        omega (arith, none, range, queues);
  })

pub account_opening : (script : ScriptModel) (told : Bool) (calls : List Posted) → IsWellFormed script →
    AreCalls script AnyMark (opening_of script) calls →
    IsAccounted script (state_of script told (events_of script calls))
account_opening script told calls well acts = accounted_opening script told calls well acts

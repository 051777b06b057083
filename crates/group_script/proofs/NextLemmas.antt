-- What may come behind the take of an emit that reaches a pending operation.
use Rattle.std.proofs.Common.{◌≡◌, ℕ, ◌+◌, ◌<◌, ◌≤◌, Bool, true, false, cond, List, [], ◌∷◌, ◌++◌, Option, Some, None, inl, inr, length, get_or, sym, ap, subst, ◌∙◌, arith}
use Rattle.std.specs.Prelude.{count_by, slice_get}
use Rattle.std.specs.List.{All, range_with_len}
use Rattle.std.proofs.lemmas.Bool.{cases_lt}
use Rattle.std.proofs.lemmas.List.{get_or_past}
use Rattle.std.proofs.lemmas.List.Elements.{All-head, All-tail}
use Rattle.std.proofs.lemmas.List.FromFn.{get_or-range_with_len, length-range_with_len}
use Rattle.std.proofs.lemmas.List.Sums.{get_or-le-sum_by}
use Rattle.asio_types.specs.declared.code.Code.{Code}
use Rattle.asio_types.specs.declared.code.Code.TheVariants as code
use Rattle.asio_types.specs.declared.event.Event.{Event}
use Rattle.asio_types.specs.declared.event.Event.TheVariants as event
use Rattle.session_script.specs.declared.act.Act.{Act}
use Rattle.session_script.specs.Script.{ScriptModel, act_of, is_stop}
use Rattle.stream_rules.specs.declared.queue.Completion.{Completion}
use Rattle.stream_rules.specs.Serving.{Outcome}
use Rattle.history_rules.specs.declared.phase.ActPhase.{ActPhase}
use Rattle.history_rules.specs.declared.phase.ActPhase.TheVariants as phase
use Rattle.history_rules.specs.declared.phase.ActState.{ActState}
use Rattle.history_rules.specs.Calls.{accepted}
use Rattle.history_rules.specs.Kinds.{is_act}
use Rattle.history_rules.specs.Legal.{IsLegalFrom, MayHappen, after_event, state_from}
use Rattle.history_rules.specs.Order.{was_taken}
use Rattle.history_rules.specs.Performing.{aborted}
use Rattle.history_rules.specs.Requests.{MayTell}
use Rattle.history_rules.specs.Rounds.{is_act_outstanding, is_outstanding, restarts}
use Rattle.history_rules.specs.State.{ContextState, ReactorHalf, State, fresh, phase_at}
use Rattle.history_rules.specs.Untold.{IsToldAs}
use Rattle.group_script.specs.Aborting.{AbortsOrFails, is_apart}
use Rattle.group_script.proofs.AskedLemmas.{IsAsked, asked_further, not_begun, not_ended}
use Rattle.group_script.proofs.EmitLemmas.{Heads}
use Rattle.group_script.proofs.PhaseLemmas.{begin-frame, begin-phase, call-frame, call-phase, return-frame, return-phase, set-phase}

module _ (script : ScriptModel) (o : ℕ) (asked : accepted script o ≡ phase.Requested) where
  -- the operation is requested still, and the round is open still
  pub record Waits (s : State) (r : ReactorHalf) (closings : ℕ) : Type 0 where
    pub reactor : s.reactor ≡ r
    pub closed : s.context.closings ≡ closings
    pub requested : phase_at s.context o ≡ phase.Requested

  waits_on : (told : Bool) (s : State) (e : Event) (r : ReactorHalf) (closings : ℕ) → MayHappen script told s e →
      is_apart e ≡ true → Waits s r closings → Waits (after_event script told s e) r closings
  waits_on told s (event.Call a) r closings may is waits = record {
    reactor = waits.reactor;
    closed = ap (λ (f : ℕ × Bool). f.0) (call-frame script s.context a) ∙ waits.closed;
    requested = call-phase script o IsAsked asked_further asked s.context a waits.requested;
  }
  waits_on told s (event.Back a) r closings may is waits = record {
    reactor = waits.reactor;
    closed = ap (λ (f : ℕ × Bool). f.0) (return-frame script s.context a) ∙ waits.closed;
    requested = return-phase script o IsAsked asked_further s.context a waits.requested;
  }
  waits_on told s (event.Begin p given size) r closings may is waits = record {
    reactor = waits.reactor;
    closed = ap (λ (f : ℕ × Bool). f.0) (begin-frame script s.context p given) ∙ waits.closed;
    requested =
        begin-phase script o IsAsked asked_further s.context p given
        (λ same. absurd (not_begun script s.context o p given size waits.requested may same)) waits.requested;
  }
  waits_on told s (event.End p mark) r closings may is waits = record {
    reactor = waits.reactor;
    closed = waits.closed;
    requested =
        set-phase script o IsAsked asked_further s.context.acts p _ waits.requested
        (λ same. absurd (not_ended script s.context o p waits.requested may same));
  }
  waits_on told s (event.Stop None) r closings may is waits = record {
    reactor = waits.reactor;
    closed = waits.closed;
    requested = waits.requested;
  }
  waits_on told s (event.Stop (Some a)) r closings may is waits = absurd (cc is)
  waits_on told s e r closings may is waits = absurd (cc is)

  -- up to the next event
  pub waits_from : (told : Bool) (s : State) (between : List Event) (next : Event) (after : List Event)
      (r : ReactorHalf) (closings : ℕ) → IsLegalFrom script told s (between ++ next ∷ after) →
      All (λ e. is_apart e ≡ true) between → Waits s r closings →
      Waits (state_from script told s between) r closings
      × MayHappen script told (state_from script told s between) next
  waits_from told s [] next after r closings legal apart waits = (waits, legal.0)
  waits_from told s (e ∷ between) next after r closings legal apart waits =
      waits_from told (after_event script told s e) between next after r closings legal.1
      (All-tail (λ e. is_apart e ≡ true) e between apart)
      (waits_on told s e r closings legal.0 (All-head (λ e. is_apart e ≡ true) e between apart) waits)

  counted_in : (test : ℕ → Bool) (n : ℕ) → o < n → test o ≡ true → 1 ≤ count_by test (range_with_len 0 n)
  counted_in test n within passes =
      let at : get_or (range_with_len 0 n) o 0 ≡ 0 + o = get_or-range_with_len 0 n o 0 within in
      let same : 0 + o ≡ o = omega arith in
      let all = get_or-le-sum_by (λ k. cond (test k) 1 0) (range_with_len 0 n) o 0
      (omega (arith, within, length-range_with_len 0 n)) in
      let here : cond (test (get_or (range_with_len 0 n) o 0)) 1 0 ≡ 1 =
      ap (λ k. one (test k)) (at ∙ same) ∙ ap one passes in
      omega (arith, all, here)
    where
      one : Bool → ℕ
      one b = cond b 1 0

  is_there : (s : ContextState) → phase_at s o ≡ phase.Requested → o < length s.acts
  is_there s is = elim (cases_lt o (length s.acts)) [
    | inl within ↦ within
    | inr past ↦
        absurd (let none : phase.Absent ≡ phase.Requested =
        sym (ap (λ (each : ActState). each.phase) (get_or_past s.acts o fresh past)) ∙ is in
        cc)
  ]

  code_told : (told : Bool) (given : Option Act) (outcome : Outcome) (c : Code) (size : ℕ) →
      IsToldAs told given outcome c size → outcome.0 ≡ c
  code_told true given outcome c size is = ap (λ (pair : Outcome). pair.0) is
  code_told false given outcome c size is = is.0

  none_due : (r : ReactorHalf) → Heads o r.due → r.due ≡ [] → ⊥
  none_due r heads empty = absurd (let wrong = sym empty ∙ heads.is in cc)

  tells_it : (told : Bool) (r : ReactorHalf) (p : ℕ) (c : Code) (size : ℕ) → Heads o r.due →
      MayTell script told r p c size → AbortsOrFails o (event.Done p c size)
  tells_it told r p c size heads (inl next) =
      let first : Some (aborted o heads.moved) ≡ Some next.head =
      sym (ap (λ (due : List Completion). slice_get due 0) heads.is) ∙ next.due in
      let same : aborted o heads.moved ≡ next.head = cc in
      let is_aborted : code.Aborted ≡ c =
      ap (λ (each : Completion). each.outcome.0) same
      ∙ code_told told (act_of script p) next.head.outcome c size next.outcome in
      let is_it : p ≡ o = sym (ap (λ (each : Completion). each.op) same ∙ next.is_op) in
      subst (λ (given : Code). AbortsOrFails o (event.Done p given size)) is_aborted is_it
  tells_it told r p c size heads (inr given) = absurd (none_due r heads given.fixed)

  module _ (no_stop : (n : ℕ) → is_act is_stop script n ≡ false)
      (no_restart : (k : ℕ) → restarts (slice_get script.rounds k) ≡ false) where
    pub next_aborts : (told : Bool) (s : State) (next : Event) (r : ReactorHalf) (closings : ℕ) → Waits s r closings →
        Heads o r.due → r.failed ≡ false → closings < length script.rounds → MayHappen script told s next →
        is_apart next ≡ false → AbortsOrFails o next
    next_aborts told s (event.Done p c size) r closings waits heads working left may is =
        tells_it told s.reactor p c size (held s r waits heads) may.next
      where
        held : (s : State) (r : ReactorHalf) → {closings : ℕ} → Waits s r closings → Heads o r.due →
            Heads o s.reactor.due
        held s r waits heads = subst (λ (half : ReactorHalf). Heads o half.due) (sym waits.reactor) heads
    next_aborts told s event.Fault r closings waits heads working left may is = tt
    next_aborts told s (event.Take a) r closings waits heads working left may is =
        absurd (none_due r heads (ap (λ (half : ReactorHalf). half.due) (sym waits.reactor) ∙ may.turn.told))
    next_aborts told s (event.Tick now) r closings waits heads working left may is =
        absurd (none_due r heads (ap (λ (half : ReactorHalf). half.due) (sym waits.reactor) ∙ may.idle.turn.told))
    next_aborts told s event.Last r closings waits heads working left may is =
        absurd (none_due r heads (ap (λ (half : ReactorHalf). half.due) (sym waits.reactor) ∙ may.idle.turn.told))
    next_aborts told s event.Stopped r closings waits heads working left may is =
        absurd (none_due r heads (ap (λ (half : ReactorHalf). half.due) (sym waits.reactor) ∙ may.told))
    next_aborts told s event.Polled r closings waits heads working left may is =
        absurd (none_due r heads (ap (λ (half : ReactorHalf). half.due) (sym waits.reactor) ∙ may.told))
    next_aborts told s event.Ended r closings waits heads working left may is =
        absurd (let outstanding : is_act_outstanding s o ≡ true =
        ap (λ (each : ActPhase). is_outstanding each (was_taken s.reactor o)) waits.requested in
        let some = counted_in (is_act_outstanding s) (length s.context.acts) (is_there s.context waits.requested)
        outstanding in
        omega (arith, some, may.idle))
    next_aborts told s event.Restart r closings waits heads working left may is =
        absurd (let wrong : false ≡ true = sym (no_restart s.context.closings) ∙ may.wanted in cc)
    next_aborts told s (event.Dropped p mark) r closings waits heads working left may is = elim may.over [
      | inl closed ↦ absurd (omega (arith, closed, waits.closed, left))
      | inr failed ↦
          absurd (let wrong : false ≡ true =
          sym working ∙ ap (λ (half : ReactorHalf). half.failed) (sym waits.reactor) ∙ failed.0 in
          cc)
    ]
    next_aborts told s (event.Stop (Some a)) r closings waits heads working left may is =
        absurd (let wrong : false ≡ true = sym (no_stop a) ∙ may.stops in cc)
    next_aborts told s (event.Stop None) r closings waits heads working left may is = absurd (cc is)
    next_aborts told s (event.Call a) r closings waits heads working left may is = absurd (cc is)
    next_aborts told s (event.Back a) r closings waits heads working left may is = absurd (cc is)
    next_aborts told s (event.Begin p given size) r closings waits heads working left may is = absurd (cc is)
    next_aborts told s (event.End p mark) r closings waits heads working left may is = absurd (cc is)

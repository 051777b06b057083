-- An operation that the reactor has to complete is requested, until handlers are destroyed.
use Rattle.std.proofs.Common.{◌≡◌, ℕ, zero, suc, ◌≤◌, Bool, true, false, List, [], ◌∷◌, Some, None, inl, inr, length, get_or, replicate, refl, sym, ap, ◌∙◌, arith}
use Rattle.std.specs.Prelude.{◌==◌}
use Rattle.std.proofs.lemmas.Bool.{and_parts, cases_eq, eq-eqb, ne_eqb}
use Rattle.asio_types.specs.declared.code.Code.{Code}
use Rattle.asio_types.specs.declared.event.Event.{Event}
use Rattle.asio_types.specs.declared.event.Event.TheVariants as event
use Rattle.session_script.specs.Script.{ScriptModel, act_of}
use Rattle.session_script.specs.WellFormed.{IsWellFormed}
use Rattle.history_rules.specs.declared.phase.ActPhase.{ActPhase}
use Rattle.history_rules.specs.declared.phase.ActPhase.TheVariants as phase
use Rattle.history_rules.specs.declared.phase.Step.{Step}
use Rattle.history_rules.specs.Calls.{accepted, progressed, stopping}
use Rattle.history_rules.specs.Executions.{MayBegin, MayEnd, has_finished}
use Rattle.history_rules.specs.Legal.{IsLegalFrom, MayHappen, after_event, context_after, reactor_after, state_from}
use Rattle.history_rules.specs.Order.{is_request, is_untaken}
use Rattle.history_rules.specs.State.{ContextState, State, act_at, call_at, first_context, first_state, fresh, phase_at}
use Rattle.reactor_turns.specs.Standing.{stands}
use Rattle.reactor_turns.proofs.StandingLemmas.{stands-done, stands-last, stands-tick}
use Rattle.reactor_turns.proofs.SummingLemmas.{one_if}
use Rattle.group_script.proofs.HeldLemmas.{IsAlone, Keeps, added, keeps-event}
use Rattle.group_script.proofs.PhaseLemmas.{begin-frame, begin-phase, call-frame, call-phase, return-frame, return-phase, set-phase, with_call-phase}

-- a request of this phase is an operation's
abbrev IsPlain : ActPhase → Type 0
IsPlain p = is_request p ≡ true → p ≡ phase.Requested

plain_further : (which : Step) (p : ActPhase) → IsPlain p → IsPlain (progressed which p)
plain_further which (phase.Running class progress) plain = λ is. absurd (cc is)
plain_further which p plain = plain

abbrev pub IsAsked : ActPhase → Type 0
IsAsked p = p ≡ phase.Requested

pub asked_further : (which : Step) (p : ActPhase) → IsAsked p → IsAsked (progressed which p)
asked_further which p is = ap (progressed which) is

pub not_begun : (script : ScriptModel) (s : ContextState) (o p : ℕ) (given : Code) (size : ℕ) →
    phase_at s o ≡ phase.Requested → MayBegin script s p given size → p ≡ o → ⊥
not_begun script s o p given size is (inl outside) same =
    let wrong : phase.Requested ≡ phase.Ready given size outside.ready.0 =
    sym is ∙ ap (phase_at s) (sym same) ∙ outside.ready.1 in absurd (cc)
not_begun script s o p given size is (inr inside) same =
    let wrong : phase.Requested ≡ phase.Inside = sym is ∙ ap (phase_at s) (sym same) ∙ inside.inside in absurd (cc)

pub not_ended : (script : ScriptModel) (s : ContextState) (o p : ℕ) → phase_at s o ≡ phase.Requested →
    MayEnd script s p → p ≡ o → ⊥
not_ended script s o p is may same =
    let at : phase_at s p ≡ phase.Requested = ap (phase_at s) same ∙ is in
    let wrong : has_finished script p (phase.Requested) ≡ true = ap (has_finished script p) (sym at) ∙ may in
    absurd (cc)

module _ (script : ScriptModel) (well : IsWellFormed script) (o i : ℕ) (one : IsAlone script o i)
    (asked : accepted script o ≡ phase.Requested) where
  pub record Asks (s : State) : Type 0 where
    pub keeps : Keeps script well o i one s.reactor
    pub plain : IsPlain (phase_at s.context o)
    pub waits : s.context.dropping ≡ false → 1 ≤ stands o s.reactor → phase_at s.context o ≡ phase.Requested

  plain_accepted : IsPlain (accepted script o)
  plain_accepted = λ is. asked

  -- the phase of an operation after an event that leaves the reactor as it is
  plain_after : (told : Bool) (s : State) (e : Event) → MayHappen script told s e → IsPlain (phase_at s.context o) →
      IsPlain (phase_at (context_after script s.context e) o)
  plain_after told s (event.Call a) may plain =
      call-phase script o IsPlain plain_further plain_accepted s.context a plain
  plain_after told s (event.Back a) may plain = return-phase script o IsPlain plain_further s.context a plain
  plain_after told s (event.Stop (Some a)) may plain =
      with_call-phase script o IsPlain plain_further s.context.acts a
      (record (act_at s.context a) { call = stopping (call_at s.context a) }) refl plain
  plain_after told s (event.Stop None) may plain = plain
  plain_after told s (event.Begin p given size) may plain =
      begin-phase script o IsPlain plain_further s.context p given (λ same is. absurd (cc is)) plain
  plain_after told s (event.End p mark) may plain =
      set-phase script o IsPlain plain_further s.context.acts p _ plain (λ same is. absurd (cc is))
  plain_after told s (event.Done p given size) may plain =
      set-phase script o IsPlain plain_further s.context.acts p _ plain (λ same is. absurd (cc is))
  plain_after told s (event.Dropped p mark) may plain =
      set-phase script o IsPlain plain_further s.context.acts p _ plain (λ same is. absurd (cc is))
  plain_after told s (event.Take a) may plain = plain
  plain_after told s (event.Tick now) may plain = plain
  plain_after told s event.Last may plain = plain
  plain_after told s event.Fault may plain = plain
  plain_after told s event.Ended may plain = plain
  plain_after told s event.Stopped may plain = plain
  plain_after told s event.Polled may plain = plain
  plain_after told s event.Restart may plain = plain

  taken_asks : (told : Bool) (s : State) (a : ℕ) → is_untaken s a ≡ true → Asks s →
      s.context.dropping ≡ false → 1 ≤ stands o (reactor_after script told s.reactor (event.Take a)) →
      phase_at s.context o ≡ phase.Requested
  taken_asks told s a untaken asks alive some = elim (cases_eq a o) [
    | inl same ↦
        asks.plain (ap (λ n. is_request (phase_at s.context n)) (sym same) ∙ (and_parts _ _ untaken).0)
    | inr apart ↦
        asks.waits alive
        (let few = added script well o i one told s.reactor a (act_of script a) refl asks.keeps.queues in
        let none : one_if (a == o) ≡ 0 = ap one_if (ne_eqb a o apart) in
        omega (arith, few, none, some))
  ]

  waits_after : (told : Bool) (s : State) (e : Event) → MayHappen script told s e → Asks s →
      (context_after script s.context e).dropping ≡ false → 1 ≤ stands o (reactor_after script told s.reactor e) →
      phase_at (context_after script s.context e) o ≡ phase.Requested
  waits_after told s (event.Call a) may asks alive some =
      call-phase script o IsAsked asked_further asked s.context a
      (asks.waits (sym (ap (λ (f : ℕ × Bool). f.1) (call-frame script s.context a)) ∙ alive) some)
  waits_after told s (event.Back a) may asks alive some =
      return-phase script o IsAsked asked_further s.context a
      (asks.waits (sym (ap (λ (f : ℕ × Bool). f.1) (return-frame script s.context a)) ∙ alive) some)
  waits_after told s (event.Stop (Some a)) may asks alive some =
      with_call-phase script o IsAsked asked_further s.context.acts a
      (record (act_at s.context a) { call = stopping (call_at s.context a) }) refl (asks.waits alive some)
  waits_after told s (event.Stop None) may asks alive some = asks.waits alive some
  waits_after told s (event.Begin p given size) may asks alive some =
      let is = asks.waits (sym (ap (λ (f : ℕ × Bool). f.1) (begin-frame script s.context p given)) ∙ alive) some in
      begin-phase script o IsAsked asked_further s.context p given
      (λ same. absurd (not_begun script s.context o p given size is may same)) is
  waits_after told s (event.End p mark) may asks alive some =
      let is = asks.waits alive some in
      set-phase script o IsAsked asked_further s.context.acts p _ is
      (λ same. absurd (not_ended script s.context o p is may same))
  waits_after told s (event.Take a) may asks alive some = taken_asks told s a may.untaken asks alive some
  waits_after told s (event.Done p given size) may asks alive some =
      let less = stands-done o script told s.reactor p given size may.next in
      let is = asks.waits alive (omega (arith, less, some)) in
      set-phase script o IsAsked asked_further s.context.acts p _ is
      (λ same. absurd (let here : one_if (p == o) ≡ 1 = ap one_if (eq-eqb p o same) in
      let most = at_most_one (get_or s.reactor.taken o false) in
      omega (arith, less, some, here, most, asks.keeps.once)))
    where
      at_most_one : (b : Bool) → one_if b ≤ 1
      at_most_one true = omega arith
      at_most_one false = omega arith
  waits_after told s (event.Tick now) may asks alive some =
      asks.waits alive (let same = stands-tick o script told s.reactor now in omega (arith, same, some))
  waits_after told s event.Last may asks alive some =
      asks.waits alive (let same = stands-last o told s.reactor in omega (arith, same, some))
  waits_after told s event.Fault may asks alive some = asks.waits alive (omega (arith, some))
  waits_after told s event.Ended may asks alive some = asks.waits alive some
  waits_after told s event.Stopped may asks alive some = asks.waits alive some
  waits_after told s event.Polled may asks alive some = asks.waits alive some
  waits_after told s event.Restart may asks alive some = asks.waits alive some
  waits_after told s (event.Dropped p mark) may asks alive some = absurd (cc alive)

  pub asks_from : (told : Bool) (s : State) (events : List Event) → IsLegalFrom script told s events → Asks s →
      Asks (state_from script told s events)
  asks_from told s [] legal asks = asks
  asks_from told s (e ∷ events) legal asks =
      asks_from told (after_event script told s e) events legal.1 (record {
        keeps = keeps-event script well o i one told s e legal.0 asks.keeps;
        plain = plain_after told s e legal.0 asks.plain;
        waits = waits_after told s e legal.0 asks;
      })

  fresh_phase : (n k : ℕ) → (get_or (replicate n fresh) k fresh).phase ≡ phase.Absent
  fresh_phase zero k = refl
  fresh_phase (suc n) zero = refl
  fresh_phase (suc n) (suc k) = fresh_phase n k

  false_at : (n k : ℕ) → get_or (replicate n false) k false ≡ false
  false_at zero k = refl
  false_at (suc n) zero = refl
  false_at (suc n) (suc k) = false_at n k

  pub asks_first : (told : Bool) → Keeps script well o i one (first_state script told).reactor →
      Asks (first_state script told)
  asks_first told keeps = record {
    keeps = keeps;
    plain = λ is.
        absurd (let absent : phase_at (first_context script) o ≡ phase.Absent = fresh_phase (length script.acts) o in
        let wrong : false ≡ true = sym (ap is_request absent) ∙ is in cc);
    waits = λ alive some.
        absurd (let none : one_if (get_or (replicate (length script.acts) false) o false) ≡ 0 =
        ap one_if (false_at (length script.acts) o) in
        omega (arith, some, none, keeps.once));
  }
